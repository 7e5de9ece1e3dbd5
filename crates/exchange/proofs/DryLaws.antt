-- What a dry exchange shows.
use Rattle.std.proofs.Common.{◌≡◌, ℕ, List, length, Bool, true, false, refl, sym, subst, ap, ◌∙◌}
use Rattle.std.specs.Prelude.{Option, None, Result, Ok, Err}
use Rattle.vclock.specs.declared.refusal.Refusal.{Refusal}
use Rattle.tree_nodes.specs.Nodes.{Node}
use Rattle.walk_messages.specs.declared.message.Answer.{Answer}
use Rattle.sync_session.specs.Walks.{Walk}
use Rattle.sync_session.specs.declared.news.News.{News}
use Rattle.range_state.specs.declared.event.AnswerTaken.{AnswerTaken}
use Rattle.exchange.specs.declared.dry.DryExchange.{DryExchange}
use Rattle.exchange.specs.declared.verdict.Verdict.{Verdict}
use Rattle.exchange.specs.declared.verdict.Verdict.TheVariants as verdicts
use Rattle.exchange.specs.Courses.{Course, is_over}
use Rattle.exchange.specs.Asks.{is_leaf}
use Rattle.exchange.specs.Answers.{Sorted, sorted, IsDueBy, IsVerdictBy, IsRead, judged}
use Rattle.exchange.specs.Dry.{TakesNews, IsNothingOf, news_in, ShowsSorted, ShowsUnless, Shows}

pub shows_late : (x : DryExchange) (bytes : List ℕ) → is_over x.course ≡ true → Shows x bytes verdicts.Late None x
shows_late x bytes over = subst (λ (b : Bool). ShowsUnless b x bytes verdicts.Late None x) (sym over) (refl, refl, refl)

sorted_shown : (x : DryExchange) (p : Sorted × Course) (v : Verdict) (c : Course) → IsVerdictBy p v c
    → ShowsSorted x p v None (record x { course = c })
sorted_shown x (Err w, d) v c is = (is.0, refl, ap (λ (e : Course). record x { course = e }) is.1)
sorted_shown x (Ok a, d) v c is = absurd is

pub shows_verdict : (x : DryExchange) (bytes : List ℕ) (read : Option Answer) (v : Verdict) (c : Course) → is_over x.course ≡ false
    → IsRead bytes read → IsVerdictBy (sorted x.course read) v c → Shows x bytes v None (record x { course = c })
shows_verdict x bytes read v c going is verdict =
    subst (λ (b : Bool). ShowsUnless b x bytes v None (record x { course = c })) (sym going)
    (record { read = read; is = is; shown = sorted_shown x (sorted x.course read) v c verdict })

-- a due answer that was taken: what the session said of it, and the verdict and the course that follow
pub record TakesDue (x : DryExchange) (p : Sorted × Course) (said : Result News Refusal) (w : Walk) (v : Verdict) (z : Course) : Type 0 where
  pub parts : Node × List ℕ
  pub course : Course
  pub taken : Result AnswerTaken Refusal
  pub leaf : Bool
  pub due : IsDueBy p parts course
  pub takes : TakesNews x.session (record { node = parts.0; text = parts.1 }) said w
  pub nothing : IsNothingOf said w taken
  pub leaf_is : leaf ≡ is_leaf x.session.own parts.0
  pub verdict : v ≡ (judged course parts.0 leaf (length parts.1) taken).0
  pub counts : z ≡ (judged course parts.0 leaf (length parts.1) taken).1

due_shown : (x : DryExchange) (p : Sorted × Course) (said : Result News Refusal) (w : Walk) (v : Verdict) (z : Course) → TakesDue x p said w v z
    → ShowsSorted x p v (news_in said) (record { session = w; course = z })
due_shown x (Ok a, d) said w v z t = record {
  said = said;
  takes = subst (λ (q : Node × List ℕ). TakesNews x.session (record { node = q.0; text = q.1 }) said w) t.due.0 t.takes;
  taken = t.taken;
  nothing = t.nothing;
  news_is = refl;
  verdict = t.verdict ∙ (ap (λ l. (judged t.course t.parts.0 l (length t.parts.1) t.taken).0) t.leaf_is
      ∙ (λ i. (judged (t.due.1 i) (t.due.0 i).0 (is_leaf x.session.own (t.due.0 i).0) (length (t.due.0 i).1) t.taken).0));
  course = t.counts ∙ (ap (λ l. (judged t.course t.parts.0 l (length t.parts.1) t.taken).1) t.leaf_is
      ∙ (λ i. (judged (t.due.1 i) (t.due.0 i).0 (is_leaf x.session.own (t.due.0 i).0) (length (t.due.0 i).1) t.taken).1));
}
due_shown x (Err u, d) said w v z t = absurd t.due

pub shows_due : (x : DryExchange) (bytes : List ℕ) (read : Option Answer) (said : Result News Refusal) (w : Walk) (v : Verdict) (z : Course)
    → is_over x.course ≡ false → IsRead bytes read → TakesDue x (sorted x.course read) said w v z
    → Shows x bytes v (news_in said) (record { session = w; course = z })
shows_due x bytes read said w v z going is due =
    subst (λ (b : Bool). ShowsUnless b x bytes v (news_in said) (record { session = w; course = z })) (sym going)
    (record { read = read; is = is; shown = due_shown x (sorted x.course read) said w v z due })
