-- Gains add up.
use Rattle.std.proofs.Common.{◌≡◌, ℕ, ◌+◌, ◌≤◌, List, [], ◌∷◌, ◌++◌, refl, sym, ap, subst, ◌∙◌, arith, append_assoc, length-append}
use Rattle.std.specs.List.{AllByRecursion}
use Rattle.std.proofs.lemmas.List.{append-nil}
use Rattle.range_journal.specs.declared.journal.Entry.{Entry}
use Rattle.range_journal.specs.declared.journal.Source.{Source}
use Rattle.version_set.specs.declared.version.Version.{Version}
use Rattle.caller_pass.specs.Passes.{PassView}
use Rattle.range_store.specs.declared.receipt.Accepted.{Accepted}
use Rattle.range_store.specs.declared.receipt.Accepted.TheVariants.{Taken}
use Rattle.ring_node.specs.Passes.{IsReceiptOf, HasReceiptOf, IsSent}
use Rattle.ring_node.specs.Gains.{IsGain, Gains, GainsSome}

-- nothing
pub gains_none : (p : PassView) (source : Source) → Gains p p source 0
gains_none p source = record {
  gained = [];
  count = refl;
  each = tt;
  receipts = sym (append-nil p.receipts);
  share = omega arith;
  seen = omega arith;
  seat = refl;
  readings = refl;
}

pub gains_same : (p q : PassView) (source : Source) → q ≡ p → Gains p q source 0
gains_same p q source same = subst (λ (x : PassView). Gains p x source 0) (sym same) (gains_none p source)

-- one entry
gains_one : (p q : PassView) (source : Source) (key : List ℕ) (v : Version) (e : Entry) → IsReceiptOf p.seat source key v e → HasReceiptOf p q e
    → Gains p q source 1
gains_one p q source key v e is shown = record {
  gained = e ∷ [];
  count = refl;
  each = (record { seat_is = is.seat_is; source_is = is.source_is; seen_is = omega (arith, ap (λ (x : PassView). x.seen) shown) }, tt);
  receipts = ap (λ (x : PassView). x.receipts) shown;
  share = ap (λ (x : PassView). x.share) shown;
  seen = omega (arith, ap (λ (x : PassView). x.seen) shown);
  seat = ap (λ (x : PassView). x.seat) shown;
  readings = ap (λ (x : PassView). x.readings) shown;
}

-- a version of another node that was taken
pub gains_taken : (p q : PassView) (source : Source) (key : List ℕ) (v : Version) (a : Accepted) (e : Entry) → a ≡ Taken e → IsSent p source key v q a
    → Gains p q source 1
gains_taken p q source key v a e is sent =
    let both : IsReceiptOf p.seat source key v e × HasReceiptOf p q e = subst (IsSent p source key v q) is sent in
    gains_one p q source key v e both.0 both.1

pub still : (seat other : ℕ) (source : Source) (seen more : ℕ) (es : List Entry) → seat ≡ other → seen ≤ more
    → AllByRecursion (IsGain seat source seen) es → AllByRecursion (IsGain other source more) es
still seat other source seen more [] same up all = tt
still seat other source seen more (e ∷ es) same up all = (
  record { seat_is = all.0.seat_is ∙ same; source_is = all.0.source_is; seen_is = let h = all.0.seen_is in omega arith },
  still seat other source seen more es same up all.1,
)

pub both : (seat : ℕ) (source : Source) (seen : ℕ) (xs ys : List Entry) → AllByRecursion (IsGain seat source seen) xs
    → AllByRecursion (IsGain seat source seen) ys → AllByRecursion (IsGain seat source seen) (xs ++ ys)
both seat source seen [] ys a b = b
both seat source seen (x ∷ xs) ys a b = (a.0, both seat source seen xs ys a.1 b)

-- some, and then some more
pub gains_more : (p q r : PassView) (source : Source) (m n : ℕ) → Gains p q source m → Gains q r source n → Gains p r source (m + n)
gains_more p q r source m n a b = record {
  gained = a.gained ++ b.gained;
  count = omega (arith, length-append a.gained b.gained, a.count, b.count);
  each = both p.seat source r.seen a.gained b.gained (still p.seat p.seat source q.seen r.seen a.gained refl b.seen a.each)
      (still q.seat p.seat source r.seen r.seen b.gained a.seat (omega arith) b.each);
  receipts = b.receipts ∙ (ap (λ xs. xs ++ b.gained) a.receipts ∙ append_assoc p.receipts a.gained b.gained);
  share = omega (arith, a.share, b.share);
  seen = omega (arith, a.seen, b.seen);
  seat = b.seat ∙ a.seat;
  readings = b.readings ∙ a.readings;
}

-- some number of entries
pub some_none : (p : PassView) (source : Source) → GainsSome p p source
some_none p source = (0, gains_none p source)

pub some_more : (p q r : PassView) (source : Source) → GainsSome p q source → GainsSome q r source → GainsSome p r source
some_more p q r source a b = (a.0 + b.0, gains_more p q r source a.0 b.0 a.1 b.1)

pub some_same : (p q : PassView) (source : Source) → q ≡ p → GainsSome p q source
some_same p q source same = (0, gains_same p q source same)
