-- The versions of a leaf whose rows were read beside a session's own ones: those that the own rows have are held, so that
-- nothing becomes of them.
use Rattle.std.proofs.Common.{◌≡◌, ◌≤◌, inl, inr, ℕ, ◌+◌, true, Option, None, List, [], ◌∷◌, ◌++◌, length, map, refl, sym, ap, subst, ◌∙◌, arith}
use Rattle.std.specs.List.{AllByRecursion}
use Rattle.std.proofs.lemmas.List.{length-append, length-map}
use Rattle.vclock.specs.Answer.{first_fault}
use Rattle.vclock.specs.declared.refusal.Refusal.{Refusal}
use Rattle.version_set.specs.declared.version.Version.{Version}
use Rattle.version_set.specs.Version.{covered, offer_fault}
use Rattle.range_journal.specs.declared.journal.Source.TheVariants.{Partner}
use Rattle.range_journal.specs.Journal.{held}
use Rattle.row_bytes.specs.declared.row.Row.{Row}
use Rattle.hash_tree.proofs.KeyLaws.{all_get}
use Rattle.sync_session.specs.declared.news.News.{News}
use Rattle.sync_session.specs.Readings.{AreOthers}
use Rattle.sync_session.specs.Walks.{TakenText, Held}
use Rattle.sync_session.proofs.NewsRowLaws.{others_all}
use Rattle.sync_session.proofs.StepLaws.{Held-grows}
use Rattle.range_store.specs.Store.{Store, knows, accept_step}
use Rattle.range_store.specs.Offers.{offers_in, offers_of, crowded_in}
use Rattle.range_state.specs.State.{State}
use Rattle.range_state.specs.Sessions.{taken_in}
use Rattle.range_state.proofs.AnswerLaws.{NewsRead, rows_ready, rows_homes}
use Rattle.range_store.specs.Batches.{IsRowFor, IsOfferFor}
use Rattle.range_store.proofs.BatchLaws.{Offers, taken-append, crowded-append}
use Rattle.range_store.proofs.HeldLaws.{grows}
use Rattle.range_store.proofs.StoreLaws.{knows_held}
use Rattle.range_store.proofs.TakenLaws.{Nothing, nothing, taken_grown, offers_all}

-- ---- versions that are held

-- Nothing becomes of offers that are known.
record AreIdle (s : Store) (seat : ℕ) (offers : Offers) : Type 0 where
  taken : taken_in s seat offers ≡ s
  crowded : crowded_in s seat Partner offers ≡ None

idle : (s : Store) (seat : ℕ) (key : List ℕ) (vs : List Version) → AllByRecursion (λ v. covered v (held s.entries key) ≡ true) vs
    → AreIdle s seat (map (λ (v : Version). (key, v)) vs)
idle s seat key [] all = record { taken = refl; crowded = refl }
idle s seat key (v ∷ vs) all =
    let offers : Offers = map (λ (w : Version). (key, w)) vs in
    let known : knows s key v ≡ true = sym (knows_held s key v) ∙ all.0 in
    let step : accept_step s seat Partner key v ≡ s = rw known refl in
    let fits : offer_fault v (held s.entries key) ≡ None = rw all.0 refl in
    let rest = idle s seat key vs all.1 in
    record {
      taken = ap (λ (t : Store). taken_in t seat offers) step ∙ rest.taken;
      crowded = ap (λ (f : Option Refusal). first_fault f (crowded_in (accept_step s seat Partner key v) seat Partner offers)) fits
          ∙ ap (λ (t : Store). crowded_in t seat Partner offers) step ∙ rest.crowded;
    }

-- what is held stays so while offers are taken
still_held : (s : Store) (seat : ℕ) (offers : Offers) (own : List Row) → Held own (held s.entries) → Held own (held (taken_in s seat offers).entries)
still_held s seat offers own h =
    let grown = taken_grown Nothing s seat Partner offers (nothing offers) in
    subst (λ es. Held own (held es)) (sym grown.entries)
    (Held-grows (held s.entries) (held (s.entries ++ grown.more)) own (grows s.entries grown.more) h)

-- ---- the news stand for all

-- What becomes of the offers of all rows becomes of the news alone.
pub record IsSame (s : Store) (seat : ℕ) (rows others : List Row) (known : ℕ) : Type 0 where
  pub taken : taken_in s seat (offers_of rows) ≡ taken_in s seat (offers_of others)
  pub crowded : crowded_in s seat Partner (offers_of rows) ≡ crowded_in s seat Partner (offers_of others)
  pub count : length (offers_of rows) ≡ length (offers_of others) + known

same_more : (s : Store) (seat : ℕ) (r : Row) (rows others : List Row) (known : ℕ) → IsSame (taken_in s seat (offers_in r)) seat rows others known
    → IsSame s seat (r ∷ rows) (r ∷ others) known
same_more s seat r rows others known is =
    let next = taken_in s seat (offers_in r) in
    record {
      taken = taken-append s seat Partner (offers_in r) (offers_of rows) ∙ is.taken
          ∙ sym (taken-append s seat Partner (offers_in r) (offers_of others));
      crowded =
          crowded-append s seat Partner (offers_in r) (offers_of rows)
          ∙ ap (first_fault (crowded_in s seat Partner (offers_in r))) is.crowded
          ∙ sym (crowded-append s seat Partner (offers_in r) (offers_of others));
      count = omega (arith, is.count, length-append (offers_in r) (offers_of rows), length-append (offers_in r) (offers_of others));
    }

same_idle : (s : Store) (seat : ℕ) (r : Row) (rows others : List Row) (n known : ℕ) → AreIdle s seat (offers_in r) → known ≡ length r.versions + n
    → IsSame s seat rows others n → IsSame s seat (r ∷ rows) others known
same_idle s seat r rows others n known quiet total is = record {
  taken = taken-append s seat Partner (offers_in r) (offers_of rows) ∙ ap (λ (t : Store). taken_in t seat (offers_of rows)) quiet.taken ∙ is.taken;
  crowded =
      crowded-append s seat Partner (offers_in r) (offers_of rows)
      ∙ ap (λ (f : Option Refusal). first_fault f (crowded_in (taken_in s seat (offers_in r)) seat Partner (offers_of rows))) quiet.crowded
      ∙ ap (λ (t : Store). crowded_in t seat Partner (offers_of rows)) quiet.taken ∙ is.crowded;
  count = omega (
    arith,
    is.count,
    total,
    length-append (offers_in r) (offers_of rows),
    length-map {B = List ℕ × Version} r.versions (λ (v : Version). (r.key, v)),
  );
}

pub news_stand : (s : Store) (seat : ℕ) (own rows others : List Row) (known : ℕ) → Held own (held s.entries) → AreOthers own rows others known
    → IsSame s seat rows others known
news_stand s seat own [] others known h news = record {
  taken = ap (λ (rs : List Row). taken_in s seat (offers_of rs)) (sym news.0);
  crowded = ap (λ (rs : List Row). crowded_in s seat Partner (offers_of rs)) (sym news.0);
  count = omega (arith, news.1, ap (λ (rs : List Row). length (offers_of rs)) news.0);
}
news_stand s seat own (r ∷ rows) others known h news = elim news [
  | inl other ↦
      let more = news_stand (taken_in s seat (offers_in r)) seat own rows other.1.0 known (still_held s seat (offers_in r) own h) other.1.2 in
      subst (λ (rs : List Row). IsSame s seat (r ∷ rows) rs known) (sym other.1.1) (same_more s seat r rows other.1.0 known more)
  | inr has ↦
      let there = has.0 in
      let row = subst (λ (x : Row). AllByRecursion (λ v. covered v (held s.entries x.key) ≡ true) x.versions) there.2
      (all_get (λ (x : Row). AllByRecursion (λ v. covered v (held s.entries x.key) ≡ true) x.versions) own there.0 r h there.1) in
      same_idle s seat r rows others has.1.0 known (idle s seat r.key r.versions row) has.1.1 (news_stand s seat own rows others has.1.0 h has.1.2)
]

-- what the news of a leaf's text have
pub news_ready : {s : State} {id : ℕ} {t : TakenText} {news : News} → NewsRead s id t news
    → AllByRecursion (IsRowFor s.store.config t.node.index) news.rows.items × (length (offers_of news.rows.items) + news.known ≤ length t.text)
news_ready {s = s} {t = t} {news = news} seen =
    let ready = rows_ready seen in
    let all = news_stand s.store 0 seen.own seen.rows news.rows.items news.known seen.held seen.parted in (
      others_all (IsRowFor s.store.config t.node.index) seen.own seen.rows news.rows.items news.known ready.0 seen.parted,
      omega (arith, ready.1, all.count),
    )

-- its versions have their place in the leaf
pub news_homes : {s : State} {id : ℕ} {t : TakenText} {news : News} → NewsRead s id t news
    → AllByRecursion (λ o. IsOfferFor s.store.config t.node.index o.0 o.1) (offers_of news.rows.items)
news_homes {s = s} {t = t} {news = news} seen =
    offers_all (IsOfferFor s.store.config t.node.index) news.rows.items
    (others_all (λ (r : Row). AllByRecursion (λ v. IsOfferFor s.store.config t.node.index r.key v) r.versions) seen.own seen.rows news.rows.items
    news.known (rows_homes seen) seen.parted)
