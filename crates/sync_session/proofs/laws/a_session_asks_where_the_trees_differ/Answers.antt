use Rattle.sync_session.proofs.HonestLaws.{asked_is_differ, differ_is_asked, true_text_due, differ_comm}
use Rattle.sync_session.proofs.OrderLaws.{asked_in_order}
use Rattle.sync_session.proofs.laws.a_session_asks_where_the_trees_differ.Goals as goal

pub returns : goal.returns
returns c = record { only = asked_is_differ; all = differ_is_asked; due = true_text_due; ordered = asked_in_order; both_ways = differ_comm }
