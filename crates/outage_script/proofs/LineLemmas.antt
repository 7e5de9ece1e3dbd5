-- Lines, and a run that reads its input in pieces.
use Rattle.std.proofs.Common.{◌≡◌, ℕ, ◌+◌, ◌<◌, ◌≤◌, length, List, [], ◌∷◌, ◌++◌, refl, sym, ap, ◌∙◌, Bool, not, true, false, Option, Some, None}
use Rattle.std.proofs.Common.{append_assoc, append-nil, length-append, arith, true≢false}
use Rattle.std.proofs.lemmas.Bool.{lt-ltb, le-leb}
use Rattle.std.specs.Prelude.{IfNone}
use Rattle.std.specs.Io.KnownBytes.{Appends}
use Rattle.std.specs.Prelude.{◌==◌, ◌&&◌}
use Rattle.std.specs.List.{list_all}
use Rattle.outage_script.specs.declared.ScriptEnd.{ScriptEnd}
use Rattle.outage_script.specs.declared.ScriptEnd.TheVariants.{Done, BadLine, Device, NoMemory}
use Rattle.outage_script.specs.Lines.{lines_of, is_inside}
use Rattle.outage_cluster.specs.State.{ClusterState}
use Rattle.outage_commands.specs.Faults.{line_limit}
use Rattle.outage_script.specs.Script.{ScriptOutcome, step, outcome_of, bad_line, preceded}
use Rattle.outage_script.specs.Ends.{Begins}
use Rattle.outage_script.specs.Moves.{Place, to_come, Moves, Stops, Ends, Spoils, KeepsLine, Feeds, Finishes}

-- no byte of it is a line feed
abbrev pub Inside : List ℕ → Type 0
Inside line = list_all is_inside line ≡ true

-- its first byte is no line feed
head_inside : (b : ℕ) (line : List ℕ) → Inside (b ∷ line) → (b == 10) ≡ false
head_inside b line h = by_test (b == 10) (list_all is_inside line) h
  where
    by_test : (x y : Bool) → (not x && y) ≡ true → x ≡ false
    by_test true y p = sym p
    by_test false y p = refl

-- its other bytes are no line feeds
tail_inside : (b : ℕ) (line : List ℕ) → Inside (b ∷ line) → Inside line
tail_inside b line h = by_test (b == 10) (list_all is_inside line) h
  where
    by_test : (x y : Bool) → (not x && y) ≡ true → y ≡ true
    by_test true y p = absurd (true≢false (sym p))
    by_test false y p = p

-- a line with its line feed is the first line
pub whole_line : (line rest : List ℕ) → Inside line → lines_of (line ++ 10 ∷ rest) ≡ line ∷ lines_of rest
unfolding lines_of
whole_line [] rest h = refl
whole_line (b ∷ line) rest h = rw (head_inside b line h, whole_line line rest (tail_inside b line h)) refl

-- the last line may lack it
pub last_line : (b : ℕ) (line : List ℕ) → Inside (b ∷ line) → lines_of (b ∷ line) ≡ (b ∷ line) ∷ []
unfolding lines_of
last_line b [] h = rw (head_inside b [] h) refl
last_line b (x ∷ line) h = rw (head_inside b (x ∷ line) h, last_line x line (tail_inside b (x ∷ line) h)) refl

-- what has come of a line begins the first line
pub record FirstLine (line rest : List ℕ) : Type 0 where
  pub more : List ℕ
  pub lines : List (List ℕ)
  pub is : lines_of (line ++ rest) ≡ (line ++ more) ∷ lines

-- what has come of a line begins the first line, if its first byte has come
pub first_line : (b : ℕ) (line rest : List ℕ) → Inside (b ∷ line) → FirstLine (b ∷ line) rest
unfolding lines_of
first_line b [] rest h = by_lines (lines_of rest) refl
  where
    by_lines : (ls : List (List ℕ)) → lines_of rest ≡ ls → FirstLine (b ∷ []) rest
    by_lines [] e = record { more = []; lines = []; is = rw (head_inside b [] h, e) refl }
    by_lines (l ∷ ls) e = record { more = l; lines = ls; is = rw (head_inside b [] h, e) refl }
first_line b (x ∷ line) rest h =
    let first = first_line x line rest (tail_inside b (x ∷ line) h) in
    record { more = first.more; lines = first.lines; is = rw (head_inside b (x ∷ line) h, first.is) refl }

-- ---- one byte, or the end of a line

-- bytes of one line stay with it
pub bytes_kept : (p : Place) (bytes : List ℕ) → Moves p bytes (record p { line = p.line ++ bytes }) []
unfolding to_come
bytes_kept p bytes = record { goes = λ rest. ap (λ t. outcome_of p.number p.state (lines_of t)) (sym (append_assoc p.line bytes rest)) }

-- a line was answered
pub line_done : (p : Place) (text : List ℕ) (next : ClusterState) → Inside p.line → step p.state p.line ≡ Some (text, next)
    → Moves p (10 ∷ []) (record { number = p.number + 1; state = next; line = []; long = p.long }) text
unfolding to_come
line_done p text next h e = record { goes = λ rest. rw (whole_line p.line rest h, e) refl }

-- what a bad line gives
abbrev pub bad_outcome : ℕ → List ℕ → ScriptOutcome
bad_outcome n line = record { text = bad_line n; bad = Some n; spoiled = Some line }

-- a bad line that is kept is kept at whatever end
spoils : (end : ScriptEnd) (p : Place) (spoiled : Option (List ℕ)) → KeepsLine p spoiled → Spoils end p spoiled
spoils Done p spoiled kept = tt
spoils (BadLine n) p spoiled kept = kept
spoils Device p spoiled kept = tt
spoils NoMemory p spoiled kept = tt

-- a line is bad, and is kept whole
pub line_bad : (p : Place) (next : ClusterState) (end : ScriptEnd) (some : List ℕ) → Inside p.line → length p.line ≤ line_limit
    → step p.state p.line ≡ None → Ends end (bad_outcome p.number p.line) some → Stops p (10 ∷ []) (record p { state = next; long = false }) end some
unfolding to_come
line_bad p next end some h short e right = record {
  right = λ rest. rw (whole_line p.line rest h, e) right;
  keeps = λ rest. rw (whole_line p.line rest h, e)
      (spoils end (record p { state = next; long = false }) (Some p.line) (p.line, refl, (refl, le-leb (length p.line) line_limit short)));
}

-- a line's answer was not written whole
pub line_cut : (p : Place) (text : List ℕ) (next : ClusterState) (some : List ℕ) → Inside p.line → step p.state p.line ≡ Some (text, next)
    → Begins text some → (q : Place) → Stops p (10 ∷ []) q Device some
unfolding to_come
line_cut p text next some h e begins q =
    record {
      right = λ rest. rw (whole_line p.line rest h, e) (
        begins.0 ++ (outcome_of (p.number + 1) next (lines_of rest)).text,
        ap (λ t. t ++ (outcome_of (p.number + 1) next (lines_of rest)).text) begins.1
            ∙ append_assoc some begins.0 _,
      );
      keeps = λ rest. tt;
    }

-- nothing was written
pub no_memory : (p q : Place) (piece : List ℕ) → Stops p piece q NoMemory []
no_memory p q piece = record { right = λ rest. ((to_come p (piece ++ rest)).text, refl); keeps = λ rest. tt }

-- a line that is too long is bad
too_long : (s : ClusterState) (line : List ℕ) → line_limit < length line → step s line ≡ None
unfolding step
too_long s line h = rw (lt-ltb line_limit (length line) h) refl

-- the first line, if something has come of it
pub first_of : (line rest : List ℕ) → 0 < length line → Inside line → FirstLine line rest
first_of [] rest some h = absurd (omega arith)
first_of (b ∷ line) rest some h = first_line b line rest h

-- a line that is to pass the limit is bad, whatever comes after it
pub line_long : (p : Place) (bytes : List ℕ) (end : ScriptEnd) (some : List ℕ) → Inside (p.line ++ bytes) → line_limit < length p.line + length bytes
    → ((line : List ℕ) → Ends end (bad_outcome p.number line) some) → Stops p bytes (record p { long = true }) end some
unfolding to_come
line_long p bytes end some h e right = record {
  right = λ rest. rw (is_bad rest (first rest)) (right (whole rest (first rest)));
  keeps = λ rest. rw (is_bad rest (first rest))
      (spoils end (record p { long = true }) (Some (whole rest (first rest)))
      (whole rest (first rest), refl, lt-ltb line_limit (length (whole rest (first rest))) (is_long rest (first rest))));
}
  where
    first : (rest : List ℕ) → FirstLine (p.line ++ bytes) rest
    first rest = first_of (p.line ++ bytes) rest (omega (arith, length-append p.line bytes)) h

    whole : (rest : List ℕ) → FirstLine (p.line ++ bytes) rest → List ℕ
    whole rest f = (p.line ++ bytes) ++ f.more

    is_long : (rest : List ℕ) (f : FirstLine (p.line ++ bytes) rest) → line_limit < length (whole rest f)
    is_long rest f = omega (arith, length-append p.line bytes, length-append (p.line ++ bytes) f.more)

    is_bad : (rest : List ℕ) (f : FirstLine (p.line ++ bytes) rest) → to_come p (bytes ++ rest) ≡ bad_outcome p.number (whole rest f)
    is_bad rest f = rw (← append_assoc p.line bytes rest, f.is, too_long p.state (whole rest f) (is_long rest f)) refl

-- ---- piece after piece

-- what was written before what was written
pub preceded_both : (x y : List ℕ) (o : ScriptOutcome) → preceded x (preceded y o) ≡ preceded (x ++ y) o
preceded_both x y o = rw (append_assoc x y o.text) refl

-- two pieces are one
pub moves_both : (a b c : Place) (p q x y : List ℕ) → Moves a p b x → Moves b q c y → Moves a (p ++ q) c (x ++ y)
moves_both a b c p q x y first second =
    record {
      goes = λ rest. ap (to_come a) (append_assoc p q rest)
          ∙ (first.goes (q ++ rest) ∙ (ap (preceded x) (second.goes rest) ∙ preceded_both x y (to_come c rest)));
    }

-- an early end is right after what was written before
pub ends_later : (end : ScriptEnd) (whole : ScriptOutcome) (some x : List ℕ) → Ends end whole some → Ends end (preceded x whole) (x ++ some)
ends_later Done whole some x e = e
ends_later (BadLine n) whole some x e = record { text = ap (λ t. x ++ t) e.text; bad = e.bad }
ends_later Device whole some x e = (e.0, ap (λ t. x ++ t) e.1 ∙ sym (append_assoc x some e.0))
ends_later NoMemory whole some x e = (e.0, ap (λ t. x ++ t) e.1 ∙ sym (append_assoc x some e.0))

-- a piece that ends the run, after one that does not
pub stops_later : (a b c : Place) (p q x y : List ℕ) (end : ScriptEnd) → Moves a p b x → Stops b q c end y → Stops a (p ++ q) c end (x ++ y)
stops_later a b c p q x y end first second = record {
  right = λ rest. rw (append_assoc p q rest, first.goes (q ++ rest)) (ends_later end (to_come b (q ++ rest)) y x (second.right rest));
  keeps = λ rest. rw (append_assoc p q rest, first.goes (q ++ rest)) (second.keeps rest);
}

-- what comes after the end is not read
pub stops_early : (a b : Place) (p q x : List ℕ) (end : ScriptEnd) → Stops a p b end x → Stops a (p ++ q) b end x
stops_early a b p q x end first = record {
  right = λ rest. rw (append_assoc p q rest) (first.right (q ++ rest));
  keeps = λ rest. rw (append_assoc p q rest) (first.keeps (q ++ rest));
}

-- no bytes are no lines
no_lines : lines_of [] ≡ []
unfolding lines_of
no_lines = refl

-- a last line that lacks its line feed is answered as if it had one
pub last_as_whole : (p : Place) → 0 < length p.line → Inside p.line → to_come p [] ≡ to_come p (10 ∷ [])
unfolding to_come
last_as_whole p some h = ap (outcome_of p.number p.state) (by_line p.line some h)
  where
    by_line : (line : List ℕ) → 0 < length line → Inside line → lines_of (line ++ []) ≡ lines_of (line ++ 10 ∷ [])
    by_line [] none i = absurd (omega arith)
    by_line (b ∷ line) none i = ap lines_of (append-nil (b ∷ line))
        ∙ (last_line b line i ∙ sym (whole_line (b ∷ line) [] i ∙ ap (λ t. (b ∷ line) ∷ t) no_lines))

-- between two lines, nothing is to come at the end of the input
pub nothing_to_come : (p : Place) → length p.line ≡ 0 → to_come p [] ≡ record { text = []; bad = None; spoiled = None }
unfolding to_come lines_of
nothing_to_come p h = ap (outcome_of p.number p.state) (by_line p.line h)
  where
    by_line : (line : List ℕ) → length line ≡ 0 → lines_of (line ++ []) ≡ []
    by_line [] e = refl
    by_line (b ∷ line) e = absurd (omega arith)

-- the outcome of a last line that was answered
pub line_ended : (p q : Place) (x : List ℕ) → 0 < length p.line → Inside p.line → Moves p (10 ∷ []) q x → q.line ≡ []
    → to_come p [] ≡ record { text = x; bad = None; spoiled = None }
line_ended p q x some h moves empty = last_as_whole p some h
    ∙ (moves.goes [] ∙ (ap (preceded x) (nothing_to_come q (ap length empty)) ∙ rw (append-nil x) refl))

-- the last line, which lacked its line feed, was answered
pub finished : (p q : Place) (end : Option ScriptEnd) (before after : Option (List ℕ)) → 0 < length p.line → Inside p.line
    → Feeds p (10 ∷ []) q end before after → IfNone end (q.line ≡ [])
    → (some : List ℕ) × Appends before after some × Finishes end q (to_come p []) some
finished p q None before after some h fed empty = (fed.0, fed.1, line_ended p q fed.0 some h fed.2 empty)
finished p q (Some end) before after some h fed empty =
    (fed.0, fed.1, (rw (last_as_whole p some h) (fed.2.right []), rw (last_as_whole p some h) (fed.2.keeps [])))
