use Rattle.std.proofs.Common.{rules, ◌≡◌, ◌⊎◌, ◌<◌, length, []}
use Rattle.std.specs.Prelude.{unwrap_or}
use Rattle.std.specs.Io.KnownBytes.{Consumes, IsAtEnd}
use Rattle.outage_script.specs.Moves.{script_place}
use Rattle.outage_script.specs.declared.ScriptEnd.TheVariants.{Done, Device}
use Rattle.outage_script.proofs.RunLemmas.{progress_flushed, runs_cut, runs_stopped, runs_finished, holds_stopped, holds_finished, keeps_same}
use Rattle.outage_script.proofs.RunLemmas.{refilled}
use Rattle.outage_script.proofs.run.drive.Goals as goal

pub returns-in-Ok-eq0 : goal.returns-in-Ok-eq0
returns-in-Ok-eq0 g c =
    let remaining = g.R.Read.remaining in
    let contents = g.W.Write.contents in
    let p = script_place c.loop-calls.script.number c.loop-calls.script.world c.loop-calls.script.line.items c.loop-calls.script.too_long in
    let q = script_place c.finish-last.new.self.number c.finish-last.new.self.world c.finish-last.new.self.line.items
    c.finish-last.new.self.too_long in
    let none : c.in-Ok-eq0.field-0 ≡ 0 = search rules in
    let gave = c.in-Ok-eq0.ensures.bytes in
    let reads : Consumes (remaining c.loop-calls.reader) (remaining c.read.new.self) [] = rw none at gave.0 in
    let room : 0 < length c.read.new.buf = search rules in
    let at_end : IsAtEnd (remaining c.read.new.self) = gave.1 none room in
    let last = c.finish-last.ensures in
    let ended : (c.flushed.result ≡ unwrap_or c.finish-last.result Done) ⊎
    (c.flushed.result ≡ Device) = rw c.unwrap_or.ensures at c.flushed.ensures.end in
    record {
      runs = runs_finished (remaining c.args.reader.now) (remaining c.read.new.self) (contents c.args.writer.now) (contents c.flushed.new.writer)
          c.flushed.result (record {
            left = remaining c.loop-calls.reader;
            after = contents c.loop-calls.writer;
            after' = contents c.finish-last.new.writer;
            p = p;
            q = q;
            some = last.0;
            end = c.finish-last.result;
            old = c.loop-calls.invariant.run;
            reads = reads;
            at_end = at_end;
            wrote = last.1;
            last = last.2;
            kept = c.flushed.ensures.kept;
            ended = ended;
          });
      holds = holds_finished (remaining c.args.reader.now) (remaining c.loop-calls.reader) (remaining c.read.new.self)
          (contents c.args.writer.now) (contents c.loop-calls.writer)
          p q last.0 c.finish-last.result c.flushed.result c.loop-calls.invariant.run reads at_end last.2 ended;
    }

pub returns-in-Err : goal.returns-in-Err
returns-in-Err g c =
    let remaining = g.R.Read.remaining in
    let contents = g.W.Write.contents in
    record {
      runs = runs_cut (remaining c.args.reader.now) (remaining c.loop-calls.reader) (remaining c.read.new.self)
          (contents c.args.writer.now) (contents c.loop-calls.writer) _ c.loop-calls.invariant.run c.in-Err.ensures.bytes;
      holds = tt;
    }

pub returns-in-Some : goal.returns-in-Some
returns-in-Some g c =
    let remaining = g.R.Read.remaining in
    let contents = g.W.Write.contents in
    let p = script_place c.loop-calls.script.number c.loop-calls.script.world c.loop-calls.script.line.items c.loop-calls.script.too_long in
    let q = script_place c.feed.new.self.number c.feed.new.self.world c.feed.new.self.line.items c.feed.new.self.too_long in
    let same : length c.read.new.buf ≡ c.loop-calls.buffer.len = search rules in
    record {
      runs = runs_stopped (remaining c.args.reader.now) (remaining c.loop-calls.reader) (remaining c.read.new.self)
          (contents c.args.writer.now) (contents c.loop-calls.writer) (contents c.feed.new.writer) (contents c.flushed-in-Some.new.writer)
          p q _ c.in-Some.end c.flushed-in-Some.result c.loop-calls.invariant.run
          (rw (c.deref.ensures.value, refilled c.read.new.buf c.loop-calls.buffer.items c.loop-calls.buffer.len same) c.in-Ok.ensures.bytes.0)
          c.in-Some.ensures.feeds c.flushed-in-Some.ensures.kept c.flushed-in-Some.ensures.end;
      holds = holds_stopped (remaining c.args.reader.now) (remaining c.loop-calls.reader) (remaining c.read.new.self)
          (contents c.args.writer.now) (contents c.loop-calls.writer) (contents c.feed.new.writer)
          p q _ c.in-Some.end c.flushed-in-Some.result c.loop-calls.invariant.run
          (rw (c.deref.ensures.value, refilled c.read.new.buf c.loop-calls.buffer.items c.loop-calls.buffer.len same) c.in-Ok.ensures.bytes.0)
          c.in-Some.ensures.feeds c.flushed-in-Some.ensures.end;
    }

pub returns-then-is_err : goal.returns-then-is_err
returns-then-is_err g c =
    let remaining = g.R.Read.remaining in
    let contents = g.W.Write.contents in
    let p = script_place c.loop-calls.script.number c.loop-calls.script.world c.loop-calls.script.line.items c.loop-calls.script.too_long in
    let q = script_place c.feed.new.self.number c.feed.new.self.world c.feed.new.self.line.items c.feed.new.self.too_long in
    let same : length c.read.new.buf ≡ c.loop-calls.buffer.len = search rules in
    let fed = progress_flushed (remaining c.args.reader.now) (remaining c.loop-calls.reader) (remaining c.read.new.self)
    (contents c.args.writer.now) (contents c.loop-calls.writer) (contents c.feed.new.writer) (contents c.flush.new.self)
    p q _ c.loop-calls.invariant.run
    (rw (c.deref.ensures.value, refilled c.read.new.buf c.loop-calls.buffer.items c.loop-calls.buffer.len same) c.in-Ok.ensures.bytes.0)
    c.in_default.ensures.feeds c.flush.ensures.bytes in
    record {
      runs = runs_cut (remaining c.args.reader.now) (remaining c.read.new.self) (remaining c.read.new.self)
          (contents c.args.writer.now) (contents c.flush.new.self) q fed (keeps_same _);
      holds = tt;
    }

pub loop-calls-preserved : goal.loop-calls-preserved
loop-calls-preserved g c =
    let remaining = g.R.Read.remaining in
    let contents = g.W.Write.contents in
    let p = script_place c.loop-calls.script.number c.loop-calls.script.world c.loop-calls.script.line.items c.loop-calls.script.too_long in
    let q = script_place c.feed.new.self.number c.feed.new.self.world c.feed.new.self.line.items c.feed.new.self.too_long in
    let same : length c.read.new.buf ≡ c.loop-calls.buffer.len = search rules in
    let fed = progress_flushed (remaining c.args.reader.now) (remaining c.loop-calls.reader) (remaining c.read.new.self)
    (contents c.args.writer.now) (contents c.loop-calls.writer) (contents c.feed.new.writer) (contents c.flush.new.self)
    p q _ c.loop-calls.invariant.run
    (rw (c.deref.ensures.value, refilled c.read.new.buf c.loop-calls.buffer.items c.loop-calls.buffer.len same) c.in-Ok.ensures.bytes.0)
    c.in_default.ensures.feeds c.flush.ensures.bytes in
    record { size = search rules; number = search rules; run = fed }

pub returns : goal.returns
returns g c =
    let remaining = g.R.Read.remaining in
    let contents = g.W.Write.contents in
    record {
      runs = runs_cut (remaining c.args.reader.now) (remaining c.loop-calls.reader) (remaining c.loop-calls.reader)
          (contents c.args.writer.now) (contents c.loop-calls.writer) _ c.loop-calls.invariant.run (keeps_same _);
      holds = tt;
    }
