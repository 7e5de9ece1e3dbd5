use Rattle.std.proofs.Common.{◌∙◌, sym}
use Rattle.version_set.proofs.TextOrderLaws.{text_cmp-is, live_cmp-is}
use Rattle.version_set.proofs.version.Version.text_order.Goals as goal

pub returns-clause-fields : goal.returns-clause-fields
returns-clause-fields c =
    cc (
      c.then-4.ensures,
      c.then-3.ensures,
      c.then-2.ensures,
      c.then.ensures,
      c.cmp.ensures,
      c.cmp-2.ensures,
      c.cmp-3.ensures,
      c.cmp-4.ensures,
      c.cmp-5.ensures,
      c.byte.ensures,
      c.byte-2.ensures,
      c.pairs-pairs.ensures.all,
      c.pairs-others.ensures.all,
      c.as_slice-value.ensures,
      c.as_slice-other_value.ensures,
    )

pub returns-clause-text : goal.returns-clause-text
returns-clause-text c hv hw = returns-clause-fields c ∙ sym (text_cmp-is c.args.self.now c.args.other.now hv hw)

pub returns-clause-live : goal.returns-clause-live
returns-clause-live c hv hw lv lw = returns-clause-fields c ∙ sym (live_cmp-is c.args.self.now c.args.other.now hv hw lv lw)
