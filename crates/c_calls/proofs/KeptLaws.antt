-- The number of entries at a moment that is whole.
use Rattle.std.proofs.Common.{◌≡◌, ℕ, zero, suc, ◌<◌, true, true≢false, length, min, refl, sym, subst, ◌∙◌, arith}
use Rattle.std.specs.Prelude.{◌==◌, Option, Some, None, IfSome, if◌then◌else◌}
use Rattle.vclock.specs.declared.refusal.Refusal.TheVariants.{Dirty}
use Rattle.row_bytes.proofs.LimitLaws.{no_fault_else}
use Rattle.tree_nodes.specs.Nodes.{are_clean, dirty_count}
use Rattle.range_store.specs.Store.{Store}
use Rattle.range_state.specs.declared.moment.Moment.{Moment}
use Rattle.range_state.specs.Moments.{moment_fault, front_of, whole_from, last_whole}
use Rattle.range_state.specs.State.{State, IsMomentOf, IsRight}
use Rattle.range_state.proofs.ReconcileLaws.{some_dirty}

not_positive : (n : ℕ) → (0 < n → ⊥) → n ≡ 0
not_positive zero not = refl
not_positive (suc n) not = absurd (not (omega arith))

by_moment : (m : Option Moment) (before : ℕ) (s : Store) → moment_fault m ≡ None → IfSome m (IsMomentOf s)
    → min (whole_from m before) (length s.entries) ≡ front_of m
by_moment None before s whole is = absurd (cc)
by_moment (Some m) before s whole is =
    let clean : are_clean m.tree.marks ≡ true = no_fault_else (are_clean m.tree.marks) Dirty whole in
    let none : dirty_count m.tree.marks ≡ 0 = not_positive (dirty_count m.tree.marks)
    (λ some. true≢false (sym clean ∙ some_dirty m.tree.marks some)) in
    subst (λ (n : ℕ). min (if n == 0 then m.front else before) (length s.entries) ≡ m.front) (sym none) (omega (arith, is.front))

-- it is the number of the moment's entries
pub moment_front : (s : State) → IsRight s → moment_fault s.moment ≡ None → min (last_whole s) (length s.store.entries) ≡ front_of s.moment
moment_front s right whole = by_moment s.moment s.whole_before s.store whole right.moment
