-- What a pass gains by a load.
use Rattle.std.proofs.Common.{◌≡◌, ℕ, ◌+◌, ◌≤◌, List, ◌++◌, length, drop, Result, Ok, Err, sym, ap, subst, ◌∙◌, arith, length-append}
use Rattle.std.specs.List.{AllByRecursion}
use Rattle.std.proofs.Math.Seq.{drop-append_seam}
use Rattle.std.specs.Prelude.{IfOk}
use Rattle.vclock.specs.Outcome.{Outcome, DoesOrNoMemory, gives, refuses}
use Rattle.vclock.specs.declared.refusal.Refusal.{Refusal}
use Rattle.range_journal.specs.declared.journal.Entry.{Entry}
use Rattle.range_journal.specs.declared.journal.Source.TheVariants.{Copy}
use Rattle.row_bytes.specs.declared.row.Row.{Row}
use Rattle.range_store.specs.declared.store.loading.Loaded.{Loaded}
use Rattle.range_store.specs.Loads.{load, load_read, load_text, rows_in}
use Rattle.range_store.specs.Config.{Config}
use Rattle.range_store.specs.Offers.{offers_of}
use Rattle.range_store.specs.Store.{Store}
use Rattle.range_state.specs.State.{with_store}
use Rattle.caller_pass.specs.Passes.{PassView, with_receipts, seen_after}
use Rattle.caller_pass.specs.Locks.{Locked}
use Rattle.caller_pass.specs.Loads.{load_in, load_text_in, after_load}
use Rattle.range_store.proofs.PutLaws.{load_gives}
use Rattle.caller_pass.proofs.LoadLaws.{was_read}
use Rattle.caller_pass.proofs.PassLaws.{seen_rises}
use Rattle.ring_node.specs.Gains.{IsGain, Gains}
use Rattle.ring_node.proofs.BroughtLaws.{all_brought, seen_up}
use Rattle.ring_node.proofs.OutcomeLaws.{given, within}

-- rows that were loaded
record IsOfRows (s : Store) (seat : ℕ) (a : Loaded) (t : Store) : Type 0 where
  pub rows : List Row
  pub gave : load s seat rows ≡ gives a t

of_rows : (s : Store) (seat len : ℕ) (r : Result (List Row) ℕ) (a : Loaded) (t : Store) → load_read s seat len r ≡ gives a t → IsOfRows s seat a t
of_rows s seat len (Ok rows) a t h = record { rows = rows; gave = h }
of_rows s seat len (Err left) a t h = absurd (let no : refuses _ ≡ gives a t = h in cc)

-- equal outcomes give equal results and states
parts : {T S : Type 0} (x y : T) (s t : S) → gives x s ≡ gives y t → (x ≡ y) × (s ≡ t)
parts x y s t e = (cc, cc)

pub gains_loaded : (l m : Locked) (p q : PassView) (text : List ℕ) (a : Loaded) → load_text_in l p text ≡ gives a (m, q) → Gains p q Copy a.taken
gains_loaded l m p q text a h =
    let s = l.state.store in
    let after = λ (one : Loaded × Store). gives one.0 (after_load l p (with_store l.state one.1)) in
    let g = given (load_text s p.seat text) after a (m, q)
    (within (with_store l.state) (load_text s p.seat text) (λ one. gives one.0 (after_load l p one.1)) ∙ h) in
    let of = of_rows s p.seat (length text) (rows_in s.config.format text) g.first g.between g.gave in
    let gave = load_gives s p.seat of.rows g.first g.between of.gave in
    let brought = all_brought s p.seat Copy (offers_of of.rows) in
    let t = g.between in
    let es = brought.es in
    let grown : t.entries ≡ s.entries ++ es = ap (λ (x : Store). x.entries) gave.1 ∙ brought.grown in
    let came : drop (length s.entries) t.entries ≡ es = ap (drop (length s.entries)) grown ∙ drop-append_seam s.entries es in
    let end = parts g.first a (after_load l p (with_store l.state t)) (m, q) g.then_gave in
    let same : g.first ≡ a = end.0 in
    let shown : q ≡ with_receipts p (length t.entries) (drop (length s.entries) t.entries) = sym (ap (λ (x : Locked × PassView). x.1) end.1) in
    let pass : q ≡ with_receipts p (length t.entries) es = shown ∙ ap (with_receipts p (length t.entries)) came in
    let count : a.taken ≡ length es = omega (arith, ap (λ (x : Loaded). x.taken) (sym same ∙ gave.0), ap length grown, length-append s.entries es) in
    let each = subst (λ (xs : List Entry). AllByRecursion (IsGain p.seat Copy (length xs)) es)
    (sym (ap (λ (x : Store). x.entries) gave.1)) brought.each in
    let seen : q.seen ≡ seen_after p.seen (length t.entries) (length es) = ap (λ (x : PassView). x.seen) pass in
    record {
      gained = es;
      count = sym count;
      each = subst (λ n. AllByRecursion (IsGain p.seat Copy n) es) (sym seen) (seen_up p.seat Copy p.seen (length t.entries) es each);
      receipts = ap (λ (x : PassView). x.receipts) pass;
      share = ap (λ (x : PassView). x.share) pass ∙ ap (λ n. p.share + n) (sym count);
      seen = subst (λ n. p.seen ≤ n) (sym seen) (seen_rises p.seen (length t.entries) (length es));
      seat = ap (λ (x : PassView). x.seat) pass;
      readings = ap (λ (x : PassView). x.readings) pass;
    }

-- a load that was not refused
pub gains_kept : (l m : Locked) (p q : PassView) (text : List ℕ) (r : Result Loaded Refusal) → DoesOrNoMemory r (l, p) (m, q) (load_text_in l p text)
    → IfOk r (λ (a : Loaded). Gains p q Copy a.taken)
gains_kept l m p q text (Ok a) h = gains_loaded l m p q text a h
gains_kept l m p q text (Err e) h = tt

-- a load of rows that were read is that of their text
pub did_text : (l m : Locked) (p q : PassView) (text : List ℕ) (config : Config) (rows : List Row) (r : Result Loaded Refusal)
    → config ≡ l.state.store.config → rows_in config.format text ≡ Ok rows
    → DoesOrNoMemory r (l, p) (m, q) (load_in l p rows) → DoesOrNoMemory r (l, p) (m, q) (load_text_in l p text)
did_text l m p q text config rows r same read h =
    let here = ap (λ (x : Config). rows_in x.format text) (sym same) ∙ read in
    subst (λ (o : Outcome Loaded (Locked × PassView)). DoesOrNoMemory r (l, p) (m, q) o) (sym (was_read l p text rows here)) h
