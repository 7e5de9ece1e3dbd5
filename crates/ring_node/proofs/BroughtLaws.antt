-- The entries that versions bring, which are accepted in their turn.
use Rattle.std.proofs.Common.{◌≡◌, ℕ, ◌<◌, ◌≤◌, true, false, cond, List, [], ◌∷◌, ◌++◌, length, refl, sym, ap, ◌∙◌, max, arith, append_assoc}
use Rattle.std.proofs.Common.{length-append}
use Rattle.std.specs.Prelude.{nat_eq}
use Rattle.std.specs.List.{AllByRecursion}
use Rattle.std.proofs.lemmas.Bool.{eqb-true}
use Rattle.std.proofs.lemmas.List.{append-nil}
use Rattle.version_set.specs.declared.version.Version.{Version}
use Rattle.range_journal.specs.declared.journal.Entry.{Entry}
use Rattle.range_journal.specs.declared.journal.Source.{Source}
use Rattle.range_store.specs.Store.{Store, knows, journaled, entry_of, accept_step}
use Rattle.range_store.specs.Offers.{accepted_in}
use Rattle.caller_pass.specs.Passes.{seen_after}
use Rattle.ring_node.specs.Gains.{IsGain}
use Rattle.ring_node.proofs.GainLaws.{still, both}

-- entries that came from a source by a seat, after those that there were
pub record Brought (seat : ℕ) (source : Source) (before now : List Entry) : Type 0 where
  pub es : List Entry
  pub grown : now ≡ before ++ es
  pub each : AllByRecursion (IsGain seat source (length now)) es

nothing : (seat : ℕ) (source : Source) (xs ys : List Entry) → ys ≡ xs → Brought seat source xs ys
nothing seat source xs ys same = record { es = []; grown = same ∙ sym (append-nil xs); each = tt }

step : (s : Store) (seat : ℕ) (source : Source) (key : List ℕ) (v : Version) → Brought seat source s.entries (accept_step s seat source key v).entries
step s seat source key v =
    elim (knows s key v) as (λ b. Brought seat source s.entries (cond b s (journaled s (entry_of s seat source key v))).entries) [
      | true ↦ nothing seat source s.entries s.entries refl
      | false ↦
          let e = entry_of s seat source key v in
          record {
            es = e ∷ [];
            grown = refl;
            each = (record { seat_is = refl; source_is = refl; seen_is = omega (arith, length-append s.entries (e ∷ [])) }, tt);
          }
    ]

then : (seat : ℕ) (source : Source) (xs ys zs : List Entry) → Brought seat source xs ys → Brought seat source ys zs → Brought seat source xs zs
then seat source xs ys zs a b = record {
  es = a.es ++ b.es;
  grown = b.grown ∙ (ap (λ es. es ++ b.es) a.grown ∙ append_assoc xs a.es b.es);
  each = both seat source (length zs) a.es b.es
      (still seat seat source (length ys) (length zs) a.es refl (omega (arith, ap length b.grown, length-append ys b.es)) a.each) b.each;
}

pub all_brought : (s : Store) (seat : ℕ) (source : Source) (offers : List (List ℕ × Version))
    → Brought seat source s.entries (accepted_in s seat source offers).entries
all_brought s seat source [] = nothing seat source s.entries s.entries refl
all_brought s seat source (o ∷ offers) =
    let t = accept_step s seat source o.0 o.1 in
    then seat source s.entries t.entries (accepted_in t seat source offers).entries (step s seat source o.0 o.1) (all_brought t seat source offers)

-- a pass that has their receipts has seen them
reaches : (seen journal k : ℕ) → 0 < k → journal ≤ seen_after seen journal k
reaches seen journal k some = elim (nat_eq k 0) as (λ b. nat_eq k 0 ≡ b → journal ≤ cond b seen (max seen journal)) [
  | true ↦ λ is. absurd (omega (arith, eqb-true k 0 is, some))
  | false ↦ λ is. omega arith
] refl

pub seen_up : (seat : ℕ) (source : Source) (seen journal : ℕ) (es : List Entry) → AllByRecursion (IsGain seat source journal) es
    → AllByRecursion (IsGain seat source (seen_after seen journal (length es))) es
seen_up seat source seen journal [] all = tt
seen_up seat source seen journal (e ∷ es) all =
    still seat seat source journal (seen_after seen journal (length (e ∷ es))) (e ∷ es) refl
    (reaches seen journal (length (e ∷ es)) (omega arith)) all
