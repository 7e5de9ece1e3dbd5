-- Bytes that a writer has taken and a reader has given, one part after another.
use Rattle.std.proofs.Common.{◌≡◌, ◌≤◌, ℕ, ◌-◌, List, ◌++◌, Option, Some, None, append_assoc, sym, ◌∙◌, ap, length, take, drop, arith, [], append-nil}
use Rattle.std.proofs.lemmas.Grind.{common_steps}
use Rattle.std.specs.Io.KnownBytes.{Appends, Keeps}

-- two appends are one
pub appends_both : (a b c : Option (List ℕ)) (x y : List ℕ) → Appends a b x → Appends b c y → Appends a c (x ++ y)
appends_both None b c x y p q = tt
appends_both (Some a) None c x y p q = absurd p
appends_both (Some a) (Some b) None x y p q = absurd q
appends_both (Some a) (Some b) (Some c) x y p q = q ∙ ap (λ t. t ++ y) p ∙ append_assoc a x y

-- nothing is appended if known bytes stay
pub appends_none : (a b c : Option (List ℕ)) (x : List ℕ) → Appends a b x → Keeps b c → Appends a c x
appends_none None b c x p q = tt
appends_none (Some a) None c x p q = absurd p
appends_none (Some a) (Some b) None x p q = absurd q
appends_none (Some a) (Some b) (Some c) x p q = q ∙ p

-- the next n bytes go onto those before
pub moved_on : (bytes some rest : List ℕ) (n k : ℕ) → bytes ≡ some ++ rest → n ≤ length rest → k ≡ length rest
    → bytes ≡ (some ++ take n rest) ++ take (k - n) (drop n rest)
moved_on bytes some rest n k whole within all = grind (arith, common_steps)

-- nothing is appended to begin with
pub appends_nothing : (a : Option (List ℕ)) → Appends a a []
appends_nothing None = tt
appends_nothing (Some a) = sym (append-nil a)
