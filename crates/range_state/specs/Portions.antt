-- Portions of a moment's nodes, whose digests are installed together.
use Rattle.std.specs.Prelude.{◌≡◌, ℕ, ◌==◌, ◌-◌, List, [], ◌∷◌, length, Option, None, Result, IfErr, OnOk, if◌then◌else◌}
use Rattle.vclock.specs.Answer.{Answers}
use Rattle.vclock.specs.Outcome.{Outcome, gives, refuses}
use Rattle.vclock.specs.declared.refusal.Refusal.{Refusal}
use Rattle.rehash.specs.Jobs.{NodeText}
use Rattle.range_state.specs.declared.moment.Moment.{Moment}
use Rattle.range_state.specs.State.{State}
use Rattle.range_state.specs.Moments.{AreMomentJobs, install_moment, dirty_in}

-- the first texts of a list, up to the one with which they have this number of bytes together
abbrev pub begun_within : ℕ → List NodeText → List NodeText
begun_within bytes [] = []
begun_within bytes (x ∷ texts) = if bytes == 0 then [] else x ∷ begun_within (bytes - length x.text) texts

-- a portion of a moment's dirty nodes whose children are clean: the first of them, no more than `most`, up to the one
-- with which their texts have 262,144 bytes
abbrev pub IsPortion : Option Moment → ℕ → List NodeText → Type 0
IsPortion m most portion = (jobs : List NodeText) × AreMomentJobs m most jobs × (portion ≡ begun_within 262144 jobs)

-- the state after an install, unchanged if it was refused
abbrev pub after_install : State → Outcome (Unit {0}) State → State
after_install s (gives x t) = t
after_install s (refuses e) = s

-- the state after the digest of each text was installed in its turn at its node of the moment
abbrev pub installed_all : State → List NodeText → State
installed_all s [] = s
installed_all s (x ∷ texts) = installed_all (after_install s (install_moment s x.node x.text)) texts

-- The digests of a portion of the moment's nodes are installed. The result is the number of its nodes that are still
-- dirty.
pub record HashesMoment (r : Result ℕ Refusal) (most : ℕ) (s t : State) : Type 0 where
  pub left : Answers r None (λ n. n ≡ dirty_in t.moment)
  pub jobs : OnOk r ((texts : List NodeText) × IsPortion s.moment most texts × (t ≡ installed_all s texts))
  pub err : IfErr r (λ _. t ≡ s)
