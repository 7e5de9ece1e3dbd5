-- What an offer makes of a set.
use Rattle.std.proofs.Common.{◌≡◌, ◌≤◌, ◌<◌, ◌+◌, false, not, filter, length, None, Some, sym, ◌∙◌, subst, arith, refl, List}
use Rattle.std.proofs.lemmas.Bool.{lt-ltb, le-ltb}
use Rattle.version_set.proofs.SetLaws.{maximal-with_version, grown, length-grown}
use Rattle.version_set.specs.declared.version.Version.{Version}
use Rattle.version_set.specs.Version.{is_below, covered, with_version, offered, offer_fault, IsVersionSet}
use Rattle.vclock.specs.Clock.{IsClock}
use Rattle.vclock.specs.declared.refusal.Refusal.TheVariants.{Crowded}

-- where the version is not covered, what is made
pub record Made (v : Version) (S T : List Version) : Type 0 where
  pub set : IsVersionSet T
  pub is : T ≡ offered v S
  pub none : offer_fault v S ≡ None

pub made : (v : Version) (S T : List Version) → IsClock v.clock → IsVersionSet S → covered v S ≡ false
    → length (filter (λ w. not (is_below w v)) S) < 64 → T ≡ with_version v (filter (λ w. not (is_below w v)) S) → Made v S T
made v S T clock set f room e = record {
  set = subst IsVersionSet (sym e) (grown v S clock set f room);
  is = e ∙ rw f (sym (maximal-with_version v S set.ascending set.own_maximum f));
  none = rw (f, length-grown v S set f, le-ltb 64 (length (filter (λ w. not (is_below w v)) S) + 1) (omega arith)) refl;
}

pub crowded : (v : Version) (S : List Version) → IsVersionSet S → covered v S ≡ false → 64 ≤ length (filter (λ w. not (is_below w v)) S)
    → offer_fault v S ≡ Some Crowded
crowded v S set f full = rw (f, length-grown v S set f, lt-ltb 64 (length (filter (λ w. not (is_below w v)) S) + 1) (omega arith)) refl

-- an offer to a set with room is not refused
pub not_crowded : (v : Version) (S : List Version) → IsVersionSet S → covered v S ≡ false → length (filter (λ w. not (is_below w v)) S) < 64
    → offer_fault v S ≡ None
not_crowded v S set f room = rw (f, length-grown v S set f, le-ltb 64 (length (filter (λ w. not (is_below w v)) S) + 1) (omega arith)) refl
