use Rattle.std.proofs.Common.{◌≡◌, [], ◌++◌, ◌-◌, true, false, length, get_or, sym, ap, subst, ◌∙◌, arith}
use Rattle.std.proofs.lemmas.List.{append-nil}
use Rattle.row_bytes.specs.declared.row.Row.{Row}
use Rattle.row_bytes.specs.Rows.{is_before}
use Rattle.hash_tree.specs.Leaves.{AscendByKey}
use Rattle.hash_tree.proofs.KeySpotLaws.{ascend_middle}
use Rattle.c_calls.specs.Keys.{key_after}
use Rattle.c_calls.proofs.KeyLaws.{ended, passed, none_above}
use Rattle.c_calls.proofs.keys.key_after.Goals as goal

pub returns-then-is_above : goal.returns-then-is_above
returns-then-is_above c =
    let key = c.args.key.now in
    let run = c.in-Some.rows.now in
    let rest = c.next_run.new.self in
    let last = c.index-rows-rows.result in
    let above : is_before key (get_or run (length run - 1) last).key ≡ true =
    ap (λ (r : Row). is_before key r.key) (sym c.index-rows-rows.is) ∙ sym c.is_above.ensures ∙ c.if-is_above.true in
    c.first_after.ensures
    ∙ sym (ended key run rest (length run - 1) last (omega (arith, c.in-Some.ensures.1)) above)
    ∙ ap (key_after key) (sym c.in-Some.ensures.0)
    ∙ c.loop-rows.invariant.same

pub loop-rows-preserved : goal.loop-rows-preserved
loop-rows-preserved c =
    let key = c.args.key.now in
    let run = c.in-Some.rows.now in
    let rest = c.next_run.new.self in
    let last = c.index-rows-rows.result in
    let not : is_before key (get_or run (length run - 1) last).key ≡ false =
    ap (λ (r : Row). is_before key r.key) (sym c.index-rows-rows.is) ∙ sym c.is_above.ensures ∙ c.if-is_above.false in
    let all : AscendByKey (run ++ rest) = subst AscendByKey c.in-Some.ensures.0 c.loop-rows.invariant.ascend in
    let here : AscendByKey run = ascend_middle [] run rest all in
    let later : AscendByKey rest = ascend_middle run rest [] (subst AscendByKey (sym (append-nil (run ++ rest))) all) in
    record {
      same = sym (passed key run rest last (none_above key run last here not)) ∙ ap (key_after key) (sym c.in-Some.ensures.0)
          ∙ c.loop-rows.invariant.same;
      ascend = later;
    }
