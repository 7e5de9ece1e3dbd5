-- What passes keep.
use Rattle.std.proofs.Common.{◌≡◌, ℕ, zero, suc, ◌+◌, ◌<◌, ◌≤◌, true, false, cond, List, [], ◌∷◌, ◌++◌, length, get_or, max, sym, subst, arith}
use Rattle.std.specs.Prelude.{nat_eq}
use Rattle.std.specs.List.{AllByRecursion}
use Rattle.std.proofs.lemmas.List.{length-append}
use Rattle.std.proofs.lemmas.List.Elements.{All-from_recursion}
use Rattle.version_set.proofs.ListLaws.{all-push}
use Rattle.range_journal.specs.declared.journal.Entry.{Entry}
use Rattle.caller_pass.specs.declared.reading.Reading.{Reading}
use Rattle.caller_pass.specs.Passes.{PassView, IsPass, AreInOrder, seen_after, with_receipts, with_reading}

-- what has been seen never falls
pub seen_rises : (seen journal k : ℕ) → seen ≤ seen_after seen journal k
seen_rises seen journal k = elim (nat_eq k 0) as (λ b. seen ≤ cond b seen (max seen journal)) [ true ↦ omega arith | false ↦ omega arith ]

all_below : (rs : List Reading) (m n : ℕ) → m ≤ n → AllByRecursion (λ (r : Reading). r.front ≤ m) rs
    → AllByRecursion (λ (r : Reading). r.front ≤ n) rs
all_below [] m n le all = tt
all_below (r ∷ rs) m n le all = (omega (arith, all.0, le), all_below rs m n le all.1)

pub pass_grown : (n : ℕ) (p : PassView) (journal : ℕ) (es : List Entry) → IsPass n p → IsPass n (with_receipts p journal es)
pass_grown n p journal es ok = record {
  seated = ok.seated;
  counted = omega (arith, ok.counted, length-append p.receipts es);
  in_order = ok.in_order;
  seen = all_below p.readings p.seen (seen_after p.seen journal (length es)) (seen_rises p.seen journal (length es)) ok.seen;
}

-- the same of what a call left in a pass
pub pass_after : (n : ℕ) (p : PassView) (journal seen share : ℕ) (receipts es : List Entry) → IsPass n p
    → seen ≡ seen_after p.seen journal (length es) → share ≡ p.share + length es → receipts ≡ p.receipts ++ es
    → IsPass n (record p { seen = seen; share = share; receipts = receipts })
pass_after n p journal seen share receipts es ok seen_is share_is receipts_are =
    subst (IsPass n) (λ i. record p { seen = sym seen_is i; share = sym share_is i; receipts = sym receipts_are i }) (pass_grown n p journal es ok)

in_order_push : (rs : List Reading) (r : Reading) → AreInOrder rs → AllByRecursion (λ (s : Reading). s.front ≤ r.front) rs → AreInOrder (rs ++ r ∷ [])
in_order_push [] r ordered below = (tt, tt)
in_order_push (s ∷ rs) r ordered below = (all-push (λ (x : Reading). s.front ≤ x.front) rs r ordered.0 below.0, in_order_push rs r ordered.1 below.1)

pub pass_read : (n : ℕ) (p : PassView) (r : Reading) → IsPass n p → p.seen ≤ r.front → IsPass n (with_reading p r)
pass_read n p r ok later =
    let below = all_below p.readings p.seen r.front later ok.seen in
    record {
      seated = ok.seated;
      counted = ok.counted;
      in_order = in_order_push p.readings r ok.in_order below;
      seen = all-push (λ (s : Reading). s.front ≤ r.front) p.readings r below (omega arith);
    }

-- a reading's front is at most those of the readings after it
pub fronts_rise : (rs : List Reading) (i k : ℕ) (d e : Reading) → AreInOrder rs → i ≤ k → k < length rs
    → (get_or rs i d).front ≤ (get_or rs k e).front
fronts_rise [] i k d e ordered le below = absurd (omega arith)
fronts_rise (r ∷ rs) zero zero d e ordered le below = omega arith
fronts_rise (r ∷ rs) zero (suc k) d e ordered le below = All-from_recursion (λ (s : Reading). r.front ≤ s.front) rs ordered.0 k e (omega arith)
fronts_rise (r ∷ rs) (suc i) zero d e ordered le below = absurd (omega arith)
fronts_rise (r ∷ rs) (suc i) (suc k) d e ordered le below = fronts_rise rs i k d e ordered.1 (omega arith) (omega arith)
