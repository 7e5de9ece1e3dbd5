-- A key that is not 1 to 255 bytes long has no entry.
use Rattle.std.proofs.Common.{◌≡◌, ◌≢◌, ℕ, zero, suc, true, false, cond, List, [], ◌∷◌, take, None, refl, ap, sym, subst}
use Rattle.std.proofs.lemmas.Slice.Eq.{bytes_eq-Decides}
use Rattle.std.specs.Prelude.{nat_eq}
use Rattle.std.specs.List.{AllByRecursion}
use Rattle.std.specs.Cmp.Lexicographic.{pointwise}
use Rattle.vclock.specs.Bytes.{key_fault}
use Rattle.version_set.specs.Version.{maximal, set_from}
use Rattle.version_set.specs.declared.version.Version.{Version}
use Rattle.range_journal.specs.Counters.{top_counter, top_in}
use Rattle.range_journal.specs.Journal.{held, versions_of}
use Rattle.range_journal.specs.declared.journal.Entry.{Entry}
use Rattle.range_store.specs.Config.{Config}
use Rattle.range_store.specs.Store.{IsOwn}

none : (c : Config) (es : List Entry) (key : List ℕ) → AllByRecursion (IsOwn c) es → key_fault key ≢ None → versions_of es key ≡ []
none c [] key own bad = refl
none c (e ∷ es) key own bad =
    elim (pointwise nat_eq e.key key) as (λ b. pointwise nat_eq e.key key ≡ b → cond b (e.version ∷ versions_of es key) (versions_of es key) ≡ []) [
      | true ↦ λ same. absurd (bad (subst (λ k. key_fault k ≡ None) ((bytes_eq-Decides e.key key).0 same) own.0.key))
      | false ↦ λ other. none c es key own.1 bad
    ] refl

pub none_held : (c : Config) (es : List Entry) (key : List ℕ) → AllByRecursion (IsOwn c) es → key_fault key ≢ None → [] ≡ held es key
none_held c es key own bad = sym (ap (λ (vs : List Version). maximal (set_from [] vs)) (none c es key own bad))

all_taken : (c : Config) (n : ℕ) (es : List Entry) → AllByRecursion (IsOwn c) es → AllByRecursion (IsOwn c) (take n es)
all_taken c zero es own = tt
all_taken c (suc n) [] own = tt
all_taken c (suc n) (e ∷ es) own = (own.0, all_taken c n es own.1)

-- so no node has a counter for it
pub no_counter : (c : Config) (n : ℕ) (es : List Entry) (key : List ℕ) (node : ℕ) → AllByRecursion (IsOwn c) es → key_fault key ≢ None
    → 0 ≡ top_counter (take n es) key node
no_counter c n es key node own bad = sym (ap (λ (vs : List Version). top_in vs node) (none c (take n es) key (all_taken c n es own) bad))
