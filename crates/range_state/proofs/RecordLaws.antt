-- Records of sessions stay right while the entries of a store grow.
use Rattle.std.proofs.Common.{◌≡◌, List, ◌++◌, sym, subst, inl, inr}
use Rattle.std.specs.List.{AllByRecursion}
use Rattle.version_set.proofs.ListLaws.{all-append}
use Rattle.range_journal.specs.declared.journal.Entry.{Entry}
use Rattle.range_journal.specs.declared.journal.Source.TheVariants.{Partner}
use Rattle.range_journal.specs.Journal.{held}
use Rattle.range_journal.specs.Copies.{IsSettled}
use Rattle.range_journal.proofs.CopyLaws.{settled_grows}
use Rattle.sync_session.proofs.StepLaws.{All-weaker, walked_grows}
use Rattle.range_store.specs.Config.{Config}
use Rattle.range_store.specs.Store.{Store, IsSound}
use Rattle.range_store.proofs.HeldLaws.{grows}
use Rattle.range_state.specs.declared.«record».Record.{Record}
use Rattle.range_state.specs.Records.{IsKept}
use Rattle.range_state.specs.State.{State, IsRight, IsFromPartner, with_store}
use Rattle.range_state.proofs.MomentLaws.{moment_grows}

kept_grows : (c : Config) (es fs : List Entry) (r : Record) → IsKept c es r → IsKept c (es ++ fs) r
kept_grows c es fs r kept = record {
  here = kept.here;
  format = kept.format;
  traced = kept.traced;
  ended = kept.ended;
  going = elim kept.going [
    | inl over ↦ inl over
    | inr on ↦ inr (record { walked = walked_grows (held es) (held (es ++ fs)) r.session (grows es fs) on.walked; orderly = on.orderly })
  ];
}

pub all_kept : (c : Config) (es fs : List Entry) (rs : List Record) → AllByRecursion (IsKept c es) rs → AllByRecursion (IsKept c (es ++ fs)) rs
all_kept c es fs rs kept = All-weaker (IsKept c es) (IsKept c (es ++ fs)) rs (kept_grows c es fs) kept

-- a store with entries more, none of which is from a partner
pub record HasGrown (s t : Store) : Type 0 where
  pub config : t.config ≡ s.config
  pub more : List Entry
  pub entries : t.entries ≡ s.entries ++ more
  pub others : AllByRecursion (λ (e : Entry). ¬ (e.source ≡ Partner)) more

-- A state stays right while its store grows so.
pub grown_right : (s : State) (t : Store) → IsRight s → IsSound t → HasGrown s.store t → IsRight (with_store s t)
grown_right s t ok sound grown =
    let kept = all_kept s.store.config s.store.entries grown.more s.records ok.records in
    let old : AllByRecursion (λ (e : Entry). e.source ≡ Partner → IsFromPartner s.records e) (s.store.entries ++ grown.more) =
    all-append _ s.store.entries grown.more ok.partners (All-weaker _ _ grown.more (λ e other from. absurd (other from)) grown.others) in
    record {
      store = sound;
      records = subst (λ (c : Config). AllByRecursion (IsKept c t.entries) s.records) (sym grown.config)
          (subst (λ (es : List Entry). AllByRecursion (IsKept s.store.config es) s.records) (sym grown.entries) kept);
      few = ok.few;
      few_open = ok.few_open;
      numbers = ok.numbers;
      partners = subst (AllByRecursion (λ (e : Entry). e.source ≡ Partner → IsFromPartner s.records e)) (sym grown.entries) old;
      settled = subst (IsSettled s.settled) (sym grown.entries) (settled_grows s.settled s.store.entries grown.more ok.settled);
      moment = moment_grows s.store t grown.more s.moment grown.config grown.entries ok.moment;
    }
