-- The statements of a call through a lock on the value behind the lock, which has no name outside of it.

-- At some moment the value was valid, and the call found it in that state.
pub record FoundAtSomeMoment {S : Type 0} (Right Seen : S → Type 0) : Type 0 where
  pub state : S
  pub right : Right state
  pub seen : Seen state

-- At some moment the value was valid, and the call made this step from that state to another one.
pub record ChangedAtSomeMoment {S : Type 0} (Right : S → Type 0) (Step : S → S → Type 0) : Type 0 where
  pub before : S
  pub after : S
  pub right : Right before
  pub step : Step before after
