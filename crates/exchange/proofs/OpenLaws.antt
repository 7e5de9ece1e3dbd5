-- An exchange that is not opened, since its session is refused.
use Rattle.std.proofs.Common.{◌≡◌, ℕ, false, ap, sym, subst, ◌∙◌, inl, inr}
use Rattle.std.specs.Prelude.{◌⊎◌, bytes_eq, IsTrue, Option, None, Err, if◌then◌else◌}
use Rattle.vclock.specs.Outcome.{Outcome, gives, refuses, is_given, Does, ◌>>=◌, ◌>>◌}
use Rattle.vclock.specs.declared.refusal.Refusal.{Refusal}
use Rattle.vclock.specs.declared.refusal.Refusal.TheVariants.{NoMemory}
use Rattle.snapshot.specs.RowMaps.{root_of}
use Rattle.walk_messages.specs.declared.message.Offer.{Offer}
use Rattle.range_state.specs.declared.local_rows.LocalRows.TheVariants.{Moment}
use Rattle.range_state.specs.State.{State}
use Rattle.range_state.specs.Sessions.{foreign_fault}
use Rattle.range_state.specs.Moments.{moment_fault, shown_rows, open_at_moment}
use Rattle.exchange.specs.declared.bounds.Bounds.{Bounds}
use Rattle.exchange.specs.declared.exchange.Exchange.{Exchange}
use Rattle.exchange.specs.Exchanges.{begun_with, level_with, beginning, opening, OpensUnless}

module _ (s t : State) (partner : ℕ) (offer : Offer) (bounds : Bounds) (foreign : foreign_fault s.store.config offer ≡ None)
    (moment : moment_fault s.moment ≡ None) (other : bytes_eq offer.root (root_of (shown_rows Moment s)) ≡ false) where
  -- what is tested before the session is opened is passed
  is_beginning : opening s partner offer bounds ≡ beginning s partner offer bounds
  is_beginning =
      ap (λ c. c >> (moment_fault s.moment >>
      (if bytes_eq offer.root (root_of (shown_rows Moment s)) then gives
      (level_with partner offer bounds) s else beginning s partner offer bounds))) foreign
      ∙ (ap (λ c. c >> (if bytes_eq offer.root (root_of (shown_rows Moment s)) then gives
      (level_with partner offer bounds) s else beginning s partner offer bounds)) moment
      ∙ ap (λ b. if b then gives (level_with partner offer bounds) s else beginning s partner offer bounds) other)

  refused_by : (e : Refusal) → ((e ≡ NoMemory) × IsTrue (is_given (open_at_moment s partner offer))) ⊎ (open_at_moment s partner offer ≡ refuses e)
      → (e ≡ NoMemory) ⊎ (opening s partner offer bounds ≡ refuses e)
  refused_by e (inl lack) = inl lack.0
  refused_by e (inr is) = inr
      (is_beginning ∙ ap (λ (o : Outcome ℕ State). o >>= (λ p. gives (begun_with partner offer bounds (shown_rows Moment s) p.0) p.1)) is)

  pub opens_refused : (e : Refusal) → Does {T = ℕ} {S = State} (Err e) s t (open_at_moment s partner offer)
      → OpensUnless {T = Exchange} {S = State} (foreign_fault s.store.config offer) (Err e) s t (opening s partner offer bounds)
  opens_refused e refused = subst (λ (c : Option Refusal). OpensUnless {T = Exchange} {S = State} c (Err e) s t (opening s partner offer bounds))
      (sym foreign) (refused.0, refused_by e refused.1)
