-- Loads of texts, by the rows that were read from them.
use Rattle.std.proofs.Common.{◌≡◌, ℕ, ◌-◌, List, Some, length, refl, ap, Result, Ok, Err}
use Rattle.vclock.specs.Outcome.{Outcome, gives, refuses, through, ◌>>=◌}
use Rattle.vclock.specs.declared.refusal.Refusal.{Refusal}
use Rattle.vclock.specs.declared.refusal.Refusal.TheVariants.{RowBroken}
use Rattle.row_bytes.specs.declared.row.Row.{Row}
use Rattle.range_store.specs.declared.store.loading.Loaded.{Loaded}
use Rattle.range_store.specs.Loads.{rows_in, read_fault, load_read}
use Rattle.range_state.specs.State.{with_store}
use Rattle.caller_pass.specs.Loads.{load_in, load_text_in, after_load}
use Rattle.caller_pass.specs.Locks.{Locked}
use Rattle.caller_pass.specs.Passes.{PassView}

-- a load of what was read from a text
abbrev loads_read : Locked → PassView → ℕ → Result (List Row) ℕ → Outcome Loaded (Locked × PassView)
loads_read l p len r = through (with_store l.state) (load_read l.state.store p.seat len r) >>= λ one. gives one.0 (after_load l p one.1)

-- rows that are refused when they are read
pub unread : (l : Locked) (p : PassView) (text : List ℕ) (e : Refusal)
    → read_fault l.state.store.config (length text) (rows_in l.state.store.config.format text) ≡ Some e → load_text_in l p text ≡ refuses e
unread l p text e = elim (rows_in l.state.store.config.format text) as (λ r. read_fault l.state.store.config (length text) r ≡ Some e
    → loads_read l p (length text) r ≡ refuses e) [
      | Ok rows ↦ λ fault. rw fault refl
      | Err left ↦ λ fault. let same : RowBroken (length text - left) ≡ e = cc in ap (λ (x : Refusal). refuses x) same
    ]

-- rows that were read
pub was_read : (l : Locked) (p : PassView) (text : List ℕ) (rows : List Row) → rows_in l.state.store.config.format text ≡ Ok rows
    → load_text_in l p text ≡ load_in l p rows
was_read l p text rows h = ap (loads_read l p (length text)) h
