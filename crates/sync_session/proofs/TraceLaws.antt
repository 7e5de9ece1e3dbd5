-- What a walk leaves however it ends.
use Rattle.std.proofs.Common.{List, ℕ, arith}
use Rattle.version_set.specs.declared.version.Version.{Version}
use Rattle.sync_session.specs.declared.state.SessionState.{SessionState}
use Rattle.sync_session.specs.declared.state.SessionState.TheVariants.{Open, Finished, Failed, Cancelled}
use Rattle.sync_session.specs.Walks.{Walk, IsExpectedText, Walked}
use Rattle.sync_session.specs.Steps.{failed, cancelled_by}
use Rattle.sync_session.specs.Differing.{IsOrderly, IsTraced}
use Rattle.sync_session.proofs.StepLaws.{All-weaker}

-- one that goes on
pub traced : (held : List ℕ → List Version) (w : Walk) → Walked held w → IsOrderly w → IsTraced w
traced held w walked orderly = record {
  texts = walked.texts;
  asked = walked.asked;
  took = λ n. omega (arith, orderly.shared n);
  once = orderly.once;
}

-- one that failed
pub traced_failed : (w : Walk) → IsTraced w → IsTraced (failed w)
traced_failed w h = record {
  texts = All-weaker (IsExpectedText w) (IsExpectedText (failed w)) w.taken (λ t is. record { canonical = is.canonical; digest = is.digest }) h.texts;
  asked = h.asked;
  took = h.took;
  once = h.once;
}

-- one that was cancelled, as it stood
pub traced_cancelled : (w : Walk) (state : SessionState) → IsTraced w → IsTraced (cancelled_by w state)
traced_cancelled w Open h = record {
  texts = All-weaker (IsExpectedText w) (IsExpectedText (cancelled_by w Open)) w.taken
      (λ t is. record { canonical = is.canonical; digest = is.digest }) h.texts;
  asked = h.asked;
  took = h.took;
  once = h.once;
}
traced_cancelled w Finished h = h
traced_cancelled w Failed h = h
traced_cancelled w Cancelled h = h
