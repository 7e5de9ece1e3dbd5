-- A whole run, from what the reader gave and the writer took.
use Rattle.std.proofs.Common.{◌≡◌, ◌⊎◌, inl, inr, ℕ, List, [], ◌++◌, refl, sym, ap, ◌∙◌, false, Option, Some, None, append_assoc, append-nil, length}
use Rattle.std.proofs.Common.{take, drop, arith}
use Rattle.std.proofs.lemmas.Grind.{common_steps}
use Rattle.std.specs.Prelude.{unwrap_or}
use Rattle.std.specs.Io.KnownBytes.{Appends, Keeps, Consumes, IsAtEnd}
use Rattle.outage_script.specs.declared.ScriptEnd.{ScriptEnd}
use Rattle.outage_script.specs.declared.ScriptEnd.TheVariants.{Done, BadLine, Device, NoMemory}
use Rattle.outage_script.specs.Script.{script_outcome, preceded}
use Rattle.outage_cluster.specs.State.{start}
use Rattle.outage_script.specs.Ends.{Begins, IsRightEnd, IsAnswer, Runs}
use Rattle.outage_script.specs.Moves.{Place, script_place, to_come, Moves, Ends, Spoils, Holds, HasRun, Feeds, Finishes}
use Rattle.outage_script.proofs.Known.{appends_both, appends_none, appends_nothing}
use Rattle.outage_script.proofs.LineLemmas.{ends_later, stops_later, moves_both}

-- a run begins with the whole script to come
starts : (bytes : List ℕ) → to_come (script_place 1 start [] false) bytes ≡ script_outcome bytes
unfolding to_come script_outcome
starts bytes = refl

-- a run in progress: these bytes were read and this was written
pub record Progress (found left before after : Option (List ℕ)) (p : Place) : Type 0 where
  pub bytes : List ℕ
  pub written : List ℕ
  pub reads : Consumes found left bytes
  pub writes : Appends before after written
  pub moves : Moves (script_place 1 start [] false) bytes p written

-- two reads are one
consumes_both : (a b c : Option (List ℕ)) (x y : List ℕ) → Consumes a b x → Consumes b c y → Consumes a c (x ++ y)
consumes_both None b c x y p q = tt
consumes_both (Some a) None c x y p q = absurd p
consumes_both (Some a) (Some b) None x y p q = absurd q
consumes_both (Some a) (Some b) (Some c) x y p q = p ∙ (ap (λ t. x ++ t) q ∙ sym (append_assoc x y c))

-- nothing is read if known bytes stay
consumes_none : (a b c : Option (List ℕ)) (x : List ℕ) → Consumes a b x → Keeps b c → Consumes a c x
consumes_none None b c x p q = tt
consumes_none (Some a) None c x p q = absurd p
consumes_none (Some a) (Some b) None x p q = absurd q
consumes_none (Some a) (Some b) (Some c) x p q = p ∙ ap (λ t. x ++ t) (sym q)

-- a piece was read and taken
progress_next : (found left left' before after after' : Option (List ℕ)) (p q : Place) (piece : List ℕ) → Progress found left before after p
    → Consumes left left' piece → Feeds p piece q None after after' → Progress found left' before after' q
progress_next found left left' before after after' p q piece old reads fed = record {
  bytes = old.bytes ++ piece;
  written = old.written ++ fed.0;
  reads = consumes_both found left left' old.bytes piece old.reads reads;
  writes = appends_both before after after' old.written fed.0 old.writes fed.1;
  moves = moves_both (script_place 1 start [] false) p q old.bytes piece old.written fed.0 old.moves fed.2;
}

-- a piece was read and taken, and a flush changed nothing of what was written
pub progress_flushed : (found left left' before after fed flushed : Option (List ℕ)) (p q : Place) (piece : List ℕ)
    → Progress found left before after p → Consumes left left' piece → Feeds p piece q None after fed → Keeps fed flushed
    → Progress found left' before flushed q
progress_flushed found left left' before after fed flushed p q piece old reads feeds kept =
    let next = progress_next found left left' before after fed p q piece old reads feeds in
    record {
      bytes = next.bytes;
      written = next.written;
      reads = next.reads;
      writes = appends_none before fed flushed next.written next.writes kept;
      moves = next.moves;
    }

-- what is right for the bytes that were read, and for the whole input, is right
right_of : (end : ScriptEnd) (bytes left w : List ℕ) → Ends end (script_outcome bytes) w → Ends end (script_outcome (bytes ++ left)) w
    → IsRightEnd end bytes left w
right_of Done bytes left w e f = absurd e
right_of (BadLine n) bytes left w e f = (e, f)
right_of Device bytes left w e f = (e, f)
right_of NoMemory bytes left w e f = (e, f)

-- all of it is a beginning of it
all_begins : (whole w : List ℕ) → whole ≡ w → Begins whole w
all_begins whole w e = ([], e ∙ sym (append-nil w))

-- if no input is left, the bytes that were read are the whole of it
no_more : (bytes left : List ℕ) → left ≡ [] → bytes ++ left ≡ bytes
no_more bytes left e = ap (λ t. bytes ++ t) e ∙ append-nil bytes

-- what is right is right too if the device fails after it
device_of : (end : ScriptEnd) (bytes left w : List ℕ) → IsRightEnd end bytes left w → IsRightEnd Device bytes left w
device_of Done bytes left w e =
    (all_begins (script_outcome bytes).text w e.1.text, rw (no_more bytes left e.0) (all_begins (script_outcome bytes).text w e.1.text))
device_of (BadLine n) bytes left w e =
    (all_begins (script_outcome bytes).text w e.0.text, all_begins (script_outcome (bytes ++ left)).text w e.1.text)
device_of Device bytes left w e = e
device_of NoMemory bytes left w e = e

-- the end after the flush
flushed_right : (end result : ScriptEnd) (bytes left w : List ℕ) → (result ≡ end) ⊎ (result ≡ Device) → IsRightEnd end bytes left w
    → IsRightEnd result bytes left w
flushed_right end result bytes left w (inl e) right = rw e right
flushed_right end result bytes left w (inr e) right = rw e (device_of end bytes left w right)

-- a run, from what was read and written
runs : (end : ScriptEnd) (found left before after : Option (List ℕ)) (bytes written : List ℕ) → Consumes found left bytes
    → Appends before after written → ((rest : List ℕ) → left ≡ Some rest → IsRightEnd end bytes rest written) → Runs end found left before after
runs end None left before after bytes written c a r = tt
runs end (Some input) None before after bytes written c a r = absurd c
runs end (Some input) (Some left) before after bytes written c a r = (bytes, written, c, a, r left refl)

-- memory ran out before the reader was asked
pub nothing_run : (found before : Option (List ℕ)) → Runs NoMemory found found before before
nothing_run None before = tt
nothing_run (Some input) before = ([], [], refl, appends_nothing before, (((script_outcome []).text, refl), ((script_outcome input).text, refl)))

pub nothing_read : (found before : Option (List ℕ)) (p : Place) → HasRun NoMemory found found before before p
nothing_read found before p = record { runs = nothing_run found before; holds = tt }

-- the reader failed, or gave no more turns
pub runs_cut : (found left left' before after : Option (List ℕ)) (p : Place) → Progress found left before after p → Keeps left left'
    → Runs Device found left' before after
runs_cut found left left' before after p old kept =
    runs Device found left' before after old.bytes old.written (consumes_none found left left' old.bytes old.reads kept) old.writes
    (λ rest e. (rw (append-nil old.bytes) at (cut []), cut rest))
  where
    cut : (rest : List ℕ) → Begins (script_outcome (old.bytes ++ rest)).text old.written
    cut rest = ((to_come p rest).text, rw (← starts (old.bytes ++ rest)) (ap (λ o. o.text) (old.moves.goes rest)))

-- the run ended within a piece
pub runs_stopped : (found left left' before after after' after'' : Option (List ℕ)) (p q : Place) (piece : List ℕ) (end result : ScriptEnd)
    → Progress found left before after p → Consumes left left' piece → Feeds p piece q (Some end) after after' → Keeps after' after''
    → (result ≡ end) ⊎ (result ≡ Device) → Runs result found left' before after''
runs_stopped found left left' before after after' after'' p q piece end result old reads fed kept ended =
    runs result found left' before after'' (old.bytes ++ piece) (old.written ++ fed.0)
    (consumes_both found left left' old.bytes piece old.reads reads)
    (appends_none before after' after'' (old.written ++ fed.0) (appends_both before after after' old.written fed.0 old.writes fed.1) kept)
    (λ rest e. flushed_right end result (old.bytes ++ piece) rest (old.written ++ fed.0) ended
    (right_of end (old.bytes ++ piece) rest (old.written ++ fed.0) (rw (append-nil (old.bytes ++ piece)) at (cut [])) (cut rest)))
  where
    cut : (rest : List ℕ) → Ends end (script_outcome ((old.bytes ++ piece) ++ rest)) (old.written ++ fed.0)
    cut rest = rw (← starts ((old.bytes ++ piece) ++ rest))
        ((stops_later (script_place 1 start [] false) p q old.bytes piece old.written fed.0 end old.moves fed.2).right rest)

-- how a run ends, once the end of the input was answered
abbrev pub end_of : Option ScriptEnd → ScriptEnd
end_of end = unwrap_or end Done

-- the outcome of what was read, at the end of the input
at_end_of : (found left before after : Option (List ℕ)) (p : Place) (old : Progress found left before after p)
    → script_outcome old.bytes ≡ preceded old.written (to_come p [])
at_end_of found left before after p old = sym (starts old.bytes)
    ∙ (ap (to_come (script_place 1 start [] false)) (sym (append-nil old.bytes)) ∙ old.moves.goes [])

-- at the end of the input nothing is left
none_left : (l : Option (List ℕ)) → IsAtEnd l → (rest : List ℕ) → l ≡ Some rest → rest ≡ []
none_left None h rest e = cc
none_left (Some l) h rest e = let same : l ≡ rest = cc in sym same ∙ h

-- a run that came to the end of its input, what was written then, and the flush after it
pub record HasFinished (found left' before after'' : Option (List ℕ)) (result : ScriptEnd) : Type 0 where
  pub left : Option (List ℕ)
  pub after : Option (List ℕ)
  pub after' : Option (List ℕ)
  pub p : Place
  pub q : Place
  pub some : List ℕ
  pub end : Option ScriptEnd
  pub old : Progress found left before after p
  pub reads : Consumes left left' []
  pub at_end : IsAtEnd left'
  pub wrote : Appends after after' some
  pub last : Finishes end q (to_come p []) some
  pub kept : Keeps after' after''
  pub ended : (result ≡ end_of end) ⊎ (result ≡ Device)

-- the input came to its end
pub runs_finished : (found left' before after'' : Option (List ℕ)) (result : ScriptEnd) → HasFinished found left' before after'' result
    → Runs result found left' before after''
runs_finished found left' before after'' result r =
    runs result found left' before after'' old.bytes (old.written ++ some)
    (rw (append-nil old.bytes) at (consumes_both found r.left left' old.bytes [] old.reads r.reads))
    (appends_none before r.after' after'' (old.written ++ some)
    (appends_both before r.after r.after' old.written some old.writes r.wrote) r.kept)
    (λ rest e. flushed_right (end_of r.end) result old.bytes rest (old.written ++ some) r.ended
    (by_end r.end r.last rest (none_left left' r.at_end rest e)))
  where
    old : Progress found r.left before r.after r.p
    old = r.old

    some : List ℕ
    some = r.some

    whole : script_outcome old.bytes ≡ preceded old.written (to_come r.p [])
    whole = at_end_of found r.left before r.after r.p old

    by_end : (f : Option ScriptEnd) → Finishes f r.q (to_come r.p []) some → (rest : List ℕ) → rest ≡ []
        → IsRightEnd (end_of f) old.bytes rest (old.written ++ some)
    by_end None e rest none =
        let is : script_outcome old.bytes ≡ record { text = old.written ++ some; bad = None; spoiled = None } = whole ∙ ap (preceded old.written) e in
        (none, record { text = ap (λ o. o.text) is; bad = ap (λ o. o.bad) is })
    by_end (Some f) e rest none =
        let ends : Ends f (script_outcome old.bytes) (old.written ++ some) = rw whole (ends_later f (to_come r.p []) some old.written e.0) in
        rw none (right_of f old.bytes [] (old.written ++ some) ends (rw (append-nil old.bytes) ends))

-- ---- the bad line that a run ended at

-- what is kept of the bad line of what was read is kept of the input's
holds : (end : ScriptEnd) (p : Place) (found left : Option (List ℕ)) (bytes : List ℕ) → Consumes found left bytes
    → ((rest : List ℕ) → left ≡ Some rest → Spoils end p (script_outcome (bytes ++ rest)).spoiled) → Holds end p found
holds Done p found left bytes c h = tt
holds (BadLine n) p None left bytes c h = tt
holds (BadLine n) p (Some input) None bytes c h = absurd c
holds (BadLine n) p (Some input) (Some left) bytes c h = rw c (h left refl)
holds Device p found left bytes c h = tt
holds NoMemory p found left bytes c h = tt

-- the same after the flush
holds_flushed : (end result : ScriptEnd) (p : Place) (found : Option (List ℕ)) → (result ≡ end) ⊎ (result ≡ Device) → Holds end p found
    → Holds result p found
holds_flushed end result p found (inl e) h = rw e h
holds_flushed end result p found (inr e) h = rw e tt

-- a run that ended within a piece keeps the bad line
pub holds_stopped : (found left left' before after after' : Option (List ℕ)) (p q : Place) (piece : List ℕ) (end result : ScriptEnd)
    → Progress found left before after p → Consumes left left' piece → Feeds p piece q (Some end) after after' → (result ≡ end) ⊎ (result ≡ Device)
    → Holds result q found
holds_stopped found left left' before after after' p q piece end result old reads fed ended =
    holds_flushed end result q found ended
    (holds end q found left' (old.bytes ++ piece) (consumes_both found left left' old.bytes piece old.reads reads)
    (λ rest e. rw (← starts ((old.bytes ++ piece) ++ rest))
    ((stops_later (script_place 1 start [] false) p q old.bytes piece old.written fed.0 end old.moves fed.2).keeps rest)))

-- a run that ended at the end of the input keeps the bad line
pub holds_finished : (found left left' before after : Option (List ℕ)) (p q : Place) (some : List ℕ) (end : Option ScriptEnd) (result : ScriptEnd)
    → Progress found left before after p → Consumes left left' [] → IsAtEnd left' → Finishes end q (to_come p []) some
    → (result ≡ end_of end) ⊎ (result ≡ Device) → Holds result q found
holds_finished found left left' before after p q some None result old reads at_end last ended = holds_flushed Done result q found ended tt
holds_finished found left left' before after p q some (Some end) result old reads at_end last ended =
    holds_flushed end result q found ended
    (holds end q found left' old.bytes (rw (append-nil old.bytes) at (consumes_both found left left' old.bytes [] old.reads reads))
    (λ rest e. rw (no_more old.bytes rest (none_left left' at_end rest e), at_end_of found left before after p old) last.1))

-- known bytes stay the same
pub keeps_same : (a : Option (List ℕ)) → Keeps a a
keeps_same None = tt
keeps_same (Some a) = refl

-- a buffer that was filled whole has the bytes that were put there
pub refilled : (buf items : List ℕ) (len : ℕ) → length buf ≡ len → take len (buf ++ drop (length buf) items) ≡ buf
refilled buf items len same = grind (arith, common_steps)

-- what is right for the whole input is its answer
right_answer : (end : ScriptEnd) (bytes left w : List ℕ) → IsRightEnd end bytes left w → IsAnswer end (bytes ++ left) w
right_answer Done bytes left w e = rw (no_more bytes left e.0) e.1
right_answer (BadLine n) bytes left w e = e.1
right_answer Device bytes left w e = e.1
right_answer NoMemory bytes left w e = e.1

-- over memory a run is the answer to its whole input
pub runs_memory : (end : ScriptEnd) (input : List ℕ) (left : Option (List ℕ)) (w : List ℕ) → Runs end (Some input) left (Some []) (Some w)
    → IsAnswer end input w
runs_memory end input None w r = absurd r
runs_memory end input (Some left) w r = rw (r.2, r.3) (right_answer end r.0 left r.1 r.4)
