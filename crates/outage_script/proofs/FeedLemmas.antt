-- A piece of the input, taken line by line.
use Rattle.std.proofs.Common.{◌≡◌, ℕ, suc, ◌+◌, ◌-◌, ◌<◌, ◌≤◌, length, List, [], ◌∷◌, ◌++◌, refl, sym, ap, ◌∙◌, Bool, true, false, Option, Some}
use Rattle.std.proofs.Common.{None, append_assoc, length-append, length-drop, arith, take, drop, get_or, add-one}
use Rattle.std.proofs.lemmas.List.{get_or-take, length-take, take_all}
use Rattle.std.proofs.lemmas.Bool.{eqb-true}
use Rattle.std.proofs.lemmas.List.Folds.{list_all-append}
use Rattle.std.proofs.Math.Seq.{split_at}
use Rattle.std.specs.Prelude.{◌==◌}
use Rattle.memchr.specs.Find.{Nowhere, NoneBefore, Passes, is_byte}
use Rattle.outage_script.specs.declared.ScriptEnd.{ScriptEnd}
use Rattle.outage_script.specs.Lines.{is_inside}
use Rattle.outage_script.specs.Moves.{Place, Feeds}
use Rattle.outage_script.proofs.Known.{appends_both}
use Rattle.outage_script.proofs.LineLemmas.{Inside, moves_both, stops_later, stops_early}

-- ---- where the next line feed is

-- a test that is not true is false
not_true : (b : Bool) → (b ≡ true → ⊥) → b ≡ false
not_true true h = absurd (h refl)
not_true false h = refl

-- if no byte is a line feed, all are inside
inside_each : (bytes : List ℕ) → ((k : ℕ) → k < length bytes → (get_or bytes k 0 == 10) ≡ true → ⊥) → Inside bytes
inside_each [] none = refl
inside_each (b ∷ bytes) none = rw (not_true (b == 10) (none 0 (omega arith)), inside_each bytes (λ k within. none (suc k) (omega arith))) refl

-- no line feed was found
pub none_found : (bytes : List ℕ) → Nowhere (Passes (is_byte 10) bytes) 0 (length bytes) → Inside bytes
none_found bytes none = inside_each bytes (λ k within. none k (omega arith) within)

-- the first line feed of some bytes is at k
pub record FeedAt (bytes : List ℕ) (k : ℕ) : Type 0 where
  pub within : k < length bytes
  pub inside : Inside (take k bytes)
  pub whole : bytes ≡ (take k bytes ++ 10 ∷ []) ++ drop (k + 1) bytes

-- a line feed was found
pub one_found : (bytes : List ℕ) (k : ℕ) → NoneBefore (Passes (is_byte 10) bytes) 0 (length bytes) k → Passes (is_byte 10) bytes k → FeedAt bytes k
one_found bytes k before here = record {
  within = before.high;
  inside = inside_each (take k bytes) inner;
  whole = split_at bytes k 0 before.high
      ∙ rw (eqb-true (get_or bytes k 0) 10 here, add-one, append_assoc (take k bytes) (10 ∷ []) (drop (suc k) bytes)) refl;
}
  where
    inner : (i : ℕ) → i < length (take k bytes) → (get_or (take k bytes) i 0 == 10) ≡ true → ⊥
    inner i within e =
        let low : i < k = omega (arith, length-take k bytes) in
        before.before i (omega arith) low (rw (get_or-take k bytes i 0 low) at e)

-- what is left after the line feed at k, of n bytes
pub rest_after : (bytes : List ℕ) (k n : ℕ) → FeedAt bytes k → n ≡ length bytes
    → bytes ≡ (take k bytes ++ 10 ∷ []) ++ take (n - (k + 1)) (drop (k + 1) bytes)
rest_after bytes k n found all = found.whole
    ∙ ap (λ t. (take k bytes ++ 10 ∷ []) ++ t) (sym (take_all (n - (k + 1)) (drop (k + 1) bytes) (omega (arith, length-drop (k + 1) bytes))))

-- more bytes that are no line feed
pub more_inside : (line bytes : List ℕ) → Inside line → Inside bytes → Inside (line ++ bytes)
more_inside line bytes h more = rw (list_all-append is_inside line bytes, h, more) refl

-- ---- the piece so far

-- a front of the piece was taken, and the rest is left
pub record Fed (old : Place) (piece rest : List ℕ) (new : Place) (before after : Option (List ℕ)) : Type 0 where
  pub front : List ℕ
  pub whole : piece ≡ front ++ rest
  pub number : new.number + length rest ≤ old.number + length piece
  pub feeds : Feeds old front new None before after

-- two parts of a piece are one
pub feeds_both : (a b c : Place) (x y : List ℕ) (end : Option ScriptEnd) (before mid after : Option (List ℕ)) → Feeds a x b None before mid
    → Feeds b y c end mid after → Feeds a (x ++ y) c end before after
feeds_both a b c x y None before mid after old now =
    (old.0 ++ now.0, appends_both before mid after old.0 now.0 old.1 now.1, moves_both a b c x y old.0 now.0 old.2 now.2)
feeds_both a b c x y (Some end) before mid after old now =
    (old.0 ++ now.0, appends_both before mid after old.0 now.0 old.1 now.1, stops_later a b c x y old.0 now.0 end old.2 now.2)

-- another part of the piece was taken, and at the most one line ended in it
pub fed_next : (a b c : Place) (piece rest part more : List ℕ) (before mid after : Option (List ℕ)) → Fed a piece rest b before mid
    → rest ≡ part ++ more → 0 < length part → c.number ≤ b.number + 1 → Feeds b part c None mid after → Fed a piece more c before after
fed_next a b c piece rest part more before mid after old cut some next now = record {
  front = old.front ++ part;
  whole = old.whole ∙ (ap (λ t. old.front ++ t) cut ∙ sym (append_assoc old.front part more));
  number = omega (arith, old.number, ap length cut, length-append part more);
  feeds = feeds_both a b c old.front part None before mid after old.feeds now;
}

-- the run ended in a part of the piece
pub fed_stop : (a b c : Place) (piece rest part more : List ℕ) (end : ScriptEnd) (before mid after : Option (List ℕ)) → Fed a piece rest b before mid
    → rest ≡ part ++ more → Feeds b part c (Some end) mid after → Feeds a piece c (Some end) before after
fed_stop a b c piece rest part more end before mid after old cut now =
    let fed : Feeds a (old.front ++ part) c (Some end) before after = feeds_both a b c old.front part (Some end) before mid after old.feeds now in
    let whole : (old.front ++ part) ++ more ≡ piece = append_assoc old.front part more ∙ (ap (λ t. old.front ++ t) (sym cut) ∙ sym old.whole) in
    (fed.0, fed.1, rw whole at (stops_early a c (old.front ++ part) more fed.0 end fed.2))

-- the last part of the piece was taken
pub fed_last : (a b c : Place) (piece rest : List ℕ) (end : Option ScriptEnd) (before mid after : Option (List ℕ)) → Fed a piece rest b before mid
    → Feeds b rest c end mid after → Feeds a piece c end before after
fed_last a b c piece rest end before mid after old now = rw old.whole (feeds_both a b c old.front rest end before mid after old.feeds now)
