-- A new range that caught up holds what the old one holds.
use Rattle.std.proofs.Common.{◌≡◌, ℕ, zero, suc, ◌+◌, ◌<◌, ◌≤◌, false, cond, get_or, slice_get, Some, None, List, [], ◌∷◌, ◌++◌, length, take, drop}
use Rattle.std.proofs.Common.{refl, sym, ap, subst, ◌∙◌, arith, append_assoc, append-nil}
use Rattle.std.specs.Prelude.{nat_eq}
use Rattle.std.specs.Cmp.Lexicographic.{pointwise}
use Rattle.std.proofs.lemmas.Cmp.{nat_list_eq_equiv}
use Rattle.std.proofs.lemmas.List.{length-append, take-append-le, take_all, take-append-drop, drop_more}
use Rattle.std.proofs.lemmas.Option.{get_or_from_slice_get, slice_get_within}
use Rattle.version_set.specs.Version.{covered, offered, offer_fault}
use Rattle.version_set.specs.declared.version.Version.{Version}
use Rattle.range_journal.specs.declared.journal.Entry.{Entry}
use Rattle.range_journal.specs.declared.journal.Source.TheVariants.{Copy}
use Rattle.range_journal.specs.Journal.{held, versions_of, AreNews}
use Rattle.range_journal.proofs.JournalLaws.{covered-held, held-push, never_refused}
use Rattle.range_store.specs.Renewals.{offers_by_leaf, renewed_by}
use Rattle.range_store.specs.Rows.{rows_of}
use Rattle.range_store.specs.Store.{Store, entry_of, full_fault, knows}
use Rattle.range_store.proofs.LoadedLaws.{news_inner}
use Rattle.range_store.proofs.RenewLaws.{length-copies, renewed_holds}
use Rattle.range_store.proofs.StoreLaws.{knows_held}
use Rattle.range_state.specs.declared.moment.Moment.{Moment}
use Rattle.range_state.specs.CatchUps.{start_at, begun_from, begun_count, caught_up, entry_fault, with_copy, with_copies_of}
use Rattle.range_state.specs.Renewals as states
use Rattle.range_state.specs.State.{State, IsRight, rows_at}

-- ---- the beginning

pub begins_now : (s : State) (m : Moment) (seat limit : ℕ) → m.front ≡ length s.store.entries
    → begun_from (start_at s m) seat limit ≡ record (states.renewed_by s seat limit)
    { store = record (states.renewed_by s seat limit).store { marks = m.tree.marks } }
begins_now s m seat limit all =
    let es : take m.front s.store.entries ≡ s.store.entries = take_all m.front s.store.entries (omega (arith, all)) in
    ap (λ (xs : List Entry). record (states.renewed_by s seat limit)
    { store = record (renewed_by (record s.store { entries = xs }) seat limit) { marks = m.tree.marks } }) es

pub begins_so : (s t : State) (m : Moment) (more : List Entry) → t.store.config ≡ s.store.config → t.store.entries ≡ s.store.entries ++ more
    → m.front ≤ length s.store.entries → (start_at t m).basis ≡ (start_at s m).basis
begins_so s t m more config entries within =
    let first : take m.front t.store.entries ≡ take m.front s.store.entries = ap (take m.front) entries
    ∙ take-append-le m.front s.store.entries more within in
    λ i. record { config = config i; rows = rows_of (first i); marks = m.tree.marks }

-- ---- what is held

-- equal sets stay so while the same versions are accepted
follows : (s : Store) (seat : ℕ) (before es : List Entry) → ((key : List ℕ) → held s.entries key ≡ held before key) → (key : List ℕ)
    → held (with_copies_of s seat es).entries key ≡ held (before ++ es) key
follows s seat before [] same key = same key ∙ ap (λ (xs : List Entry). held xs key) (sym (append-nil before))
follows s seat before (e ∷ es) same key =
    follows (with_copy s seat e) seat (before ++ e ∷ []) es (λ k. step k) key
    ∙ ap (λ (xs : List Entry). held xs key) (append_assoc before (e ∷ []) es)
  where
    step : (k : List ℕ) → held (with_copy s seat e).entries k ≡ held (before ++ e ∷ []) k
    step k =
        held-push s.entries (entry_of s seat Copy e.key e.version) k
        ∙ ap (λ (vs : List Version). cond (pointwise nat_eq e.key k) (offered e.version vs) vs) (same k)
        ∙ sym (held-push before e k)

take_none : (k : ℕ) (xs : List Entry) → xs ≡ [] → take k xs ≡ []
take_none zero xs none = refl
take_none (suc k) [] none = refl
take_none (suc k) (x ∷ xs) none = absurd (cc)

take_both : (m n : ℕ) (xs : List Entry) → take m xs ++ take n (drop m xs) ≡ take (m + n) xs
take_both zero n xs = let same : n ≡ zero + n = omega arith in ap (λ k. take k xs) same
take_both (suc m) n [] = take_none n [] refl ∙ sym (take_none (suc m + n) [] refl)
take_both (suc m) n (x ∷ xs) = let next : suc (m + n) ≡ suc m + n = omega arith in ap (λ ys. x ∷ ys) (take_both m n xs)
    ∙ ap (λ k. take k (x ∷ xs)) next

pub caught_holds : (s : State) (m : Moment) (seat limit k : ℕ) (key : List ℕ)
    → held (caught_up s m seat limit k).entries key ≡ held (take (m.front + k) s.store.entries) key
caught_holds s m seat limit k key =
    let old : Store = record { config = s.store.config; entries = take m.front s.store.entries; marks = m.tree.marks } in
    follows (begun_from (start_at s m) seat limit).store seat (take m.front s.store.entries) (take k (drop m.front s.store.entries))
    (λ x. renewed_holds old seat x) key
    ∙ ap (λ (xs : List Entry). held xs key) (take_both m.front k s.store.entries)

-- ---- each later entry is new

-- the entries around one
around : (es : List Entry) (n : ℕ) (e : Entry) → n < length es → e ≡ get_or es n e → es ≡ take n es ++ e ∷ drop (n + 1) es
around es n e less at = sym (take-append-drop n es)
    ∙ ap (λ (xs : List Entry). take n es ++ xs) (drop_more es n e less ∙ ap (λ (x : Entry). x ∷ drop (n + 1) es) (sym at))

pub caught_new : (s : State) → IsRight s → (m : Moment) (seat limit k : ℕ) (e : Entry) → slice_get s.store.entries (m.front + k) ≡ Some e
    → entry_fault (caught_up s m seat limit k) e ≡ full_fault (caught_up s m seat limit k)
caught_new s ok m seat limit k e here =
    let es = s.store.entries in
    let n = m.front + k in
    let new = caught_up s m seat limit k in
    let less : n < length es = slice_get_within es n e here in
    let at : e ≡ get_or es n e = sym (get_or_from_slice_get es n e e here) in
    let same = caught_holds s m seat limit k e.key in
    let apart : covered e.version (versions_of (take n es) e.key) ≡ false = news_inner [] (take n es) e (drop (n + 1) es)
    (subst AreNews (around es n e less at) ok.store.news) in
    let unknown : knows new e.key e.version ≡ false = sym (knows_held new e.key e.version) ∙ ap (covered e.version) same
    ∙ covered-held e.version (take n es) e.key ∙ apart in
    let fits : offer_fault e.version (held new.entries e.key) ≡ None = never_refused es n e e.key (held new.entries e.key) e.version less at
    (nat_list_eq_equiv.refl e.key) same refl (ok.store.short e.key) in
    rw (unknown, fits) refl

-- ---- numbers

-- what is there stays
kept : (s : Store) (seat : ℕ) (es : List Entry) (i : ℕ) (x : Entry) → slice_get s.entries i ≡ Some x
    → slice_get (with_copies_of s seat es).entries i ≡ Some x
kept s seat [] i x here = here
kept s seat (e ∷ es) i x here = kept (with_copy s seat e) seat es i x (before s.entries i here)
  where
    before : (xs : List Entry) (j : ℕ) → slice_get xs j ≡ Some x → slice_get (xs ++ entry_of s seat Copy e.key e.version ∷ []) j ≡ Some x
    before [] j none = absurd (let no : None ≡ Some x = none in cc)
    before (y ∷ xs) zero first = first
    before (y ∷ xs) (suc j) later = before xs j later

last_one : (xs : List Entry) (y : Entry) → slice_get (xs ++ y ∷ []) (length xs) ≡ Some y
last_one [] y = refl
last_one (x ∷ xs) y = last_one xs y

copied_at : (s : Store) (seat : ℕ) (es : List Entry) (i : ℕ) (e : Entry) → slice_get es i ≡ Some e
    → slice_get (with_copies_of s seat es).entries (length s.entries + i) ≡ Some
    (record { number = length s.entries + i; seat = seat; source = Copy; key = e.key; version = e.version })
copied_at s seat [] i e none = absurd (let no : None ≡ Some e = none in cc)
copied_at s seat (x ∷ es) zero e first =
    let one : x ≡ e = cc in
    let same : length s.entries ≡ length s.entries + zero = omega arith in
    subst (λ n. slice_get (with_copies_of s seat (x ∷ es)).entries n ≡ Some
    (record { number = n; seat = seat; source = Copy; key = e.key; version = e.version })) same
    (kept (with_copy s seat x) seat es (length s.entries) _ (last_one s.entries (entry_of s seat Copy x.key x.version))
    ∙ ap (λ (y : Entry). Some (entry_of s seat Copy y.key y.version)) one)
copied_at s seat (x ∷ es) (suc i) e later =
    let next : length (with_copy s seat x).entries + i ≡ length s.entries + suc i = omega
    (arith, length-append s.entries (entry_of s seat Copy x.key x.version ∷ [])) in
    subst (λ n. slice_get (with_copies_of s seat (x ∷ es)).entries n ≡ Some
    (record { number = n; seat = seat; source = Copy; key = e.key; version = e.version })) next (copied_at (with_copy s seat x) seat es i e later)

first_at : (xs : List Entry) (j n : ℕ) (e : Entry) → j < n → slice_get xs j ≡ Some e → slice_get (take n xs) j ≡ Some e
first_at [] j n e below none = absurd (let no : None ≡ Some e = none in cc)
first_at (x ∷ xs) j zero e below there = absurd (omega (arith, below))
first_at (x ∷ xs) zero (suc n) e below there = there
first_at (x ∷ xs) (suc j) (suc n) e below there = first_at xs j n e (omega (arith, below)) there

later_at : (es : List Entry) (m i k : ℕ) (e : Entry) → i < k → slice_get es (m + i) ≡ Some e → slice_get (take k (drop m es)) i ≡ Some e
later_at es zero i k e less here = let same : zero + i ≡ i = omega arith in first_at es i k e less (ap (slice_get es) (sym same) ∙ here)
later_at [] (suc m) i k e less none = absurd (let no : None ≡ Some e = none in cc)
later_at (x ∷ xs) (suc m) i k e less here = let next : suc m + i ≡ suc (m + i) = omega arith in
    later_at xs m i k e less (ap (slice_get (x ∷ xs)) (sym next) ∙ here)

pub caught_number : (s : State) (m : Moment) (seat limit k i : ℕ) (e : Entry) → i < k → slice_get s.store.entries (m.front + i) ≡ Some e
    → slice_get (caught_up s m seat limit k).entries (begun_count s m + i) ≡ Some
    (record { number = begun_count s m + i; seat = seat; source = Copy; key = e.key; version = e.version })
caught_number s m seat limit k i e less here =
    let new = (begun_from (start_at s m) seat limit).store in
    let count : length new.entries ≡ begun_count s m = length-copies 0 seat (offers_by_leaf s.store.config (rows_at s.store m.front).rows) in
    subst (λ n. slice_get (caught_up s m seat limit k).entries (n + i) ≡ Some
    (record { number = n + i; seat = seat; source = Copy; key = e.key; version = e.version })) count
    (copied_at new seat (take k (drop m.front s.store.entries)) i e (later_at s.store.entries m.front i k e less here))
