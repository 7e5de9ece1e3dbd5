-- Laws of stores that are numbered anew.
use Rattle.std.proofs.Common.{◌≡◌, ℕ, ◌+◌, ◌<◌, ◌≤◌, ◌^◌, Bool, true, false, cond, List, [], ◌∷◌, ◌++◌, length, get_or, take, Some, None, refl, ap}
use Rattle.std.proofs.Common.{sym, ◌∙◌, inl, inr, arith, add-zero}
use Rattle.std.specs.Prelude.{filter, not, nat_lt, IsTrue, ◌⊎◌, Option}
use Rattle.std.proofs.lemmas.Bool.{and_from, lt-ltb}
use Rattle.std.proofs.lemmas.List.{append-nil}
use Rattle.std.proofs.lemmas.List.Elements.{filter_more}
use Rattle.std.proofs.lemmas.List.Filters.{length-filter_more, length-filter_both}
use Rattle.std.proofs.lemmas.List.Sums.{length-filter, sum_by-take-le}
use Rattle.vclock.specs.Outcome.{Outcome, gives, refuses, is_given, ◌>>◌}
use Rattle.vclock.specs.declared.refusal.Refusal.{Refusal}
use Rattle.vclock.specs.declared.refusal.Refusal.TheVariants.{HintsFull, NoMemory}
use Rattle.version_set.specs.declared.version.Version.{Version}
use Rattle.hint_store.specs.declared.counts.HintCounts.{HintCounts}
use Rattle.hint_store.specs.declared.hint.Fate.TheVariants.{Pending}
use Rattle.hint_store.specs.declared.hint.Kept.{Kept}
use Rattle.hint_store.specs.Hints.{is_pending, pending_count, AreHints, keep_fault, with_hint, keep}
use Rattle.hint_store.specs.Renewals.{numbered_from, renewed}
use Rattle.hint_store.specs.Counts.{counts_of}

-- all hints that are numbered anew are pending
length-numbered : (n : ℕ) (ks : List Kept) → length (numbered_from n ks) ≡ length ks
length-numbered n [] = refl
length-numbered n (k ∷ ks) = omega (arith, length-numbered (n + 1) ks)

pending-numbered : (n : ℕ) (ks : List Kept) → pending_count (numbered_from n ks) ≡ length ks
pending-numbered n [] = refl
pending-numbered n (k ∷ ks) = omega (arith, pending-numbered (n + 1) ks)

-- a pending hint with a number
abbrev again : ℕ → Kept → Kept
again n k = record { hint = record { id = n; owner = k.hint.owner; key = k.hint.key; version = k.hint.version }; fate = Pending }

numbered-push : (n : ℕ) (ks : List Kept) (k : Kept) → numbered_from n (ks ++ k ∷ []) ≡ numbered_from n ks ++ again (n + length ks) k ∷ []
numbered-push n [] k = ap (λ m. again m k ∷ []) (sym (add-zero n))
numbered-push n (x ∷ ks) k =
    let next : n + 1 + length ks ≡ n + length (x ∷ ks) = omega arith in
    ap (λ (rest : List Kept). again n x ∷ rest) (numbered-push (n + 1) ks k ∙ ap (λ m. numbered_from (n + 1) ks ++ again m k ∷ []) next)

-- the pending ones of a few hints, and the next one
pending_more : (hints : List Kept) (i : ℕ) (k : Kept) (b : Bool) → i < length hints → k ≡ get_or hints i k → is_pending k ≡ b
    → filter is_pending (take (i + 1) hints) ≡ filter is_pending (take i hints) ++ cond b (k ∷ []) []
pending_more hints i k b h is pending =
    filter_more is_pending hints i k h
    ∙ (ap (λ (x : Kept). filter is_pending (take i hints) ++ cond (is_pending x) (x ∷ []) []) (sym is)
    ∙ ap (λ c. filter is_pending (take i hints) ++ cond c (k ∷ []) []) pending)

-- a hint that is not pending adds nothing
pub renewed-same : (hints : List Kept) (i : ℕ) (k : Kept) → i < length hints → k ≡ get_or hints i k → is_pending k ≡ false
    → renewed (take (i + 1) hints) ≡ renewed (take i hints)
renewed-same hints i k h is not_pending =
    ap (numbered_from 1) (pending_more hints i k false h is not_pending ∙ append-nil (filter is_pending (take i hints)))

-- a pending hint is kept anew
pub renewed-more : (hints : List Kept) (i : ℕ) (k : Kept) → i < length hints → k ≡ get_or hints i k → is_pending k ≡ true
    → renewed (take (i + 1) hints) ≡ with_hint (renewed (take i hints)) k.hint.owner k.hint.key k.hint.version
renewed-more hints i k h is pending =
    let before = filter is_pending (take i hints) in
    let number : 1 + length before ≡ length (numbered_from 1 before) + 1 = omega (arith, length-numbered 1 before) in
    ap (numbered_from 1) (pending_more hints i k true h is pending)
    ∙ (numbered-push 1 before k ∙ ap (λ m. numbered_from 1 before ++ again m k ∷ []) number)

-- there is room for each pending hint
pub renewed-room : (hints : List Kept) (i : ℕ) (k : Kept) → AreHints hints → i < length hints → k ≡ get_or hints i k → is_pending k ≡ true
    → keep_fault (renewed (take i hints)) ≡ None
renewed-room hints i k are h is pending =
    let before = filter is_pending (take i hints) in
    let one : cond {A = ℕ} (is_pending (get_or hints i k)) 1 0 ≡ 1 = ap (λ (x : Kept). cond {A = ℕ} (is_pending x) 1 0) (sym is)
    ∙ ap (λ b. cond {A = ℕ} b 1 0) pending in
    let most : length before + 1 ≤ pending_count hints =
    omega (
      arith,
      length-filter_more is_pending hints i k h,
      one,
      length-filter is_pending (take (i + 1) hints),
      length-filter is_pending hints,
      sum_by-take-le (λ (x : Kept). cond (is_pending x) 1 0) hints (i + 1),
    ) in
    let count : pending_count (renewed (take i hints)) < 10000 = omega (arith, pending-numbered 1 before, most, are.few) in
    let id : length (renewed (take i hints)) + 1 < 2 ^ 32 = omega (arith, length-numbered 1 before, most, are.few) in
    ap (λ b. cond b None (Some HintsFull))
    (and_from (nat_lt (pending_count (renewed (take i hints))) 10000) (nat_lt (length (renewed (take i hints)) + 1) (2 ^ 32))
    (lt-ltb (pending_count (renewed (take i hints))) 10000 count) (lt-ltb (length (renewed (take i hints)) + 1) (2 ^ 32) id))

-- the outcome of keeping a hint for which there is room
keep-given : (hints : List Kept) (o : ℕ) (key : List ℕ) (v : Version) → keep_fault hints ≡ None
    → keep hints o key v ≡ gives (length hints + 1) (with_hint hints o key v)
keep-given hints o key v free = ap (λ (f : Option Refusal). f >> gives (length hints + 1) (with_hint hints o key v)) free

pub kept-ok : (id : ℕ) (old new : List Kept) (o : ℕ) (key : List ℕ) (v : Version) → keep_fault old ≡ None → keep old o key v ≡ gives id new
    → new ≡ with_hint old o key v
kept-ok id old new o key v free does =
    let same : ◌≡◌ {A = Outcome ℕ (List Kept)} (gives (length old + 1) (with_hint old o key v)) (gives id new) = sym (keep-given old o key v free)
    ∙ does in
    cc

pub kept-err : (e : Refusal) (old : List Kept) (o : ℕ) (key : List ℕ) (v : Version) → keep_fault old ≡ None
    → ((e ≡ NoMemory) × IsTrue (is_given (keep old o key v))) ⊎ (keep old o key v ≡ refuses e) → e ≡ NoMemory
kept-err e old o key v free does = elim does [
  | inl memory ↦ memory.0
  | inr refused ↦ absurd (let same : ◌≡◌ {A = Outcome ℕ (List Kept)} (gives (length old + 1) (with_hint old o key v)) (refuses e) = sym
      (keep-given old o key v free) ∙ refused in cc)
]

-- the counts from the number of pending hints and the rest
pub counts-from : (hints : List Kept) (p d : ℕ) → p ≡ pending_count hints → d + pending_count hints ≡ length hints
    → (let c : HintCounts = record { pending = p; delivered = d } in c) ≡ counts_of hints
counts-from hints p d pending all =
    let delivered : d ≡ length (filter (λ k. not (is_pending k)) hints) = omega
    (arith, all, length-filter_both is_pending (λ k. not (is_pending k)) (λ k. refl) hints) in
    λ i. record { pending = pending i; delivered = delivered i }
