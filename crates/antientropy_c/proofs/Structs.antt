-- The structs of C that are handles, or hold a share, each of one type. One of nothing has any value.
use Rattle.std.proofs.Common.{[], refl}
use Rattle.vclock.specs.declared.format.Format.TheVariants.{One}
use Rattle.admission.specs.Admission.{fresh_admission}
use Rattle.admission.specs.contracts.budget.SlotBudget as budget
use Rattle.exchange.specs.contracts.exchange.Exchange as exchanges
use Rattle.exchange.specs.Exchanges.{level_with}
use Rattle.hint_store.specs.contracts.store.HintStore as store
use Rattle.range_state.specs.State.{fresh}
use Rattle.range_state.specs.contracts.portion.Portion as nodes
pub use Rattle.c_handle.proofs.HandleLaws.{CStruct, Sends, sent, of_handle, into_handle, moved}
pub use Rattle.c_handle.proofs.LentLaws.{CShare, of_lent, into_lent}
use Rattle.c_calls.specs.Kept.{numbered}
use Rattle.antientropy_c.specs.contracts.exchange_handle.ExchangeHandle as exchange
use Rattle.antientropy_c.specs.contracts.hints.Hints as hints
use Rattle.c_calls.specs.contracts.kept.Kept as kept
use Rattle.c_calls.specs.contracts.kept_renewal.KeptRenewal as kept_renewal
use Rattle.c_calls.specs.declared.kept_renewal.RenewalStage.TheVariants.{Vacant}
use Rattle.antientropy_c.specs.contracts.portion_handle.PortionHandle as portion
use Rattle.antientropy_c.specs.contracts.publication.Publication as publication
use Rattle.antientropy_c.specs.contracts.publication_share.PublicationShare as publication_share
use Rattle.c_calls.specs.contracts.published.Published as published
use Rattle.antientropy_c.specs.contracts.renewal_handle.RenewalHandle as renewal
use Rattle.antientropy_c.specs.contracts.replica.Replica as replica
use Rattle.antientropy_c.specs.contracts.replica_share.ReplicaShare as replica_share
use Rattle.antientropy_c.specs.contracts.slots.Slots as slots

abbrev pub of_replica : CStruct
of_replica = record {
  R = kept.the_row;
  T = replica.the_type;
  parts_of = λ h. ((h.at, (h.held, (h.alloc, tt))), h.kept);
  make = λ u. record { at = u.0.0; held = u.0.1.0; alloc = u.0.1.1.0; kept = u.1 };
  any =
      numbered (fresh (record { format = One; bits = 0; range = 0; limit = 1 }));
  made = λ u. refl;
  owns = λ h. refl;
}

abbrev pub of_publication : CStruct
of_publication = record {
  R = published.the_row;
  T = publication.the_type;
  parts_of = λ h. ((h.at, (h.held, (h.alloc, tt))), h.shown);
  make = λ u. record { at = u.0.0; held = u.0.1.0; alloc = u.0.1.1.0; shown = u.1 };
  any =
      record { rows = record { format = One; bits = 0; range = 0; rows = [] }; entries = 0 };
  made = λ u. refl;
  owns = λ h. refl;
}

abbrev pub of_hints : CStruct
of_hints = record {
  R = store.the_row;
  T = hints.the_type;
  parts_of = λ h. ((h.at, (h.held, (h.alloc, tt))), h.kept);
  make = λ u. record { at = u.0.0; held = u.0.1.0; alloc = u.0.1.1.0; kept = u.1 };
  any = [];
  made = λ u. refl;
  owns = λ h. refl;
}

abbrev pub of_slots : CStruct
of_slots = record {
  R = budget.the_row;
  T = slots.the_type;
  parts_of = λ h. ((h.at, (h.held, (h.alloc, tt))), h.budget);
  make = λ u. record { at = u.0.0; held = u.0.1.0; alloc = u.0.1.1.0; budget = u.1 };
  any = fresh_admission 1 1 0;
  made = λ u. refl;
  owns =
      λ h. refl;
}

abbrev pub of_portion : CStruct
of_portion = record {
  R = nodes.the_row;
  T = portion.the_type;
  parts_of = λ h. ((h.at, (h.held, (h.alloc, tt))), h.nodes);
  make = λ u. record { at = u.0.0; held = u.0.1.0; alloc = u.0.1.1.0; nodes = u.1 };
  any = [];
  made = λ u. refl;
  owns = λ h. refl;
}

abbrev pub of_exchange : CStruct
of_exchange = record {
  R = exchanges.the_row;
  T = exchange.the_type;
  parts_of = λ h. ((h.at, (h.held, (h.alloc, tt))), h.exchange);
  make = λ u. record { at = u.0.0; held = u.0.1.0; alloc = u.0.1.1.0; exchange = u.1 };
  any =
      level_with 0 (record { offer = 0; format = 0; range = 0; root = [] }) (record { asks = 0; bytes = 0; bad = 0; lost = 0 });
  made = λ u. refl;
  owns = λ h. refl;
}

abbrev pub of_renewal : CStruct
of_renewal = record {
  R = kept_renewal.the_row;
  T = renewal.the_type;
  parts_of = λ h. ((h.at, (h.held, (h.alloc, tt))), h.renewal);
  make = λ u. record { at = u.0.0; held = u.0.1.0; alloc = u.0.1.1.0; renewal = u.1 };
  any = record { first = 0; limit = 0; stage = Vacant };
  made =
      λ u. refl;
  owns = λ h. refl;
}

abbrev pub of_replica_share : CShare
of_replica_share = record {
  R = kept.the_row;
  T = replica_share.the_type;
  parts_of = λ h. ((h.at, (h.held, tt)), h.kept, h.round, h.count);
  make = λ u. record { at = u.0.0; held = u.0.1.0; kept = u.1; round = u.2; count = u.3 };
  any =
      numbered (fresh (record { format = One; bits = 0; range = 0; limit = 1 }));
  made = λ u. refl;
  makes = λ d. refl;
  owns = λ h. refl;
}

abbrev pub of_publication_share : CShare
of_publication_share = record {
  R = published.the_row;
  T = publication_share.the_type;
  parts_of = λ h. ((h.at, (h.held, tt)), h.shown, h.round, h.count);
  make =
      λ u. record { at = u.0.0; held = u.0.1.0; shown = u.1; round = u.2; count = u.3 };
  any =
      record { rows = record { format = One; bits = 0; range = 0; rows = [] }; entries = 0 };
  made = λ u. refl;
  makes = λ d. refl;
  owns = λ h. refl;
}
