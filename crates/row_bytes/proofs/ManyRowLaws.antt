-- Rows one after another: what was read is spelled so, and what is spelled so is read.
use Rattle.std.proofs.Common.{◌≡◌, inl, inr, ℕ, zero, suc, ◌+◌, ◌-◌, ◌<◌, ◌≤◌, Bool, true, false, cond, ltb, eqb, take, drop, Result, Some, List, []}
use Rattle.std.proofs.Common.{◌∷◌, ◌++◌, length, Ok, Err, refl, sym, ap, subst, ◌∙◌, append_assoc, arith}
use Rattle.std.specs.Int.{w16, byte_len, from_be_bytes}
use Rattle.std.specs.List.{flat_map, AllByRecursion, slice_get}
use Rattle.std.proofs.Math.Seq.{get_or-append_seam}
use Rattle.std.proofs.lemmas.Bool.{ltb-false, eqb-false, eqb-true}
use Rattle.std.proofs.lemmas.List.{append-nil, length-append, length-drop}
use Rattle.std.proofs.lemmas.Option.{slice_get-get_or}
use Rattle.vclock.specs.declared.format.Format.{Format}
use Rattle.row_bytes.specs.declared.fault.ReadError.{ReadError}
use Rattle.row_bytes.specs.declared.fault.ReadError.TheVariants as errors
use Rattle.row_bytes.specs.declared.row.Row.{Row}
use Rattle.row_bytes.specs.Rows.{is_before, row_text, IsRow, KeysAscend, AreRows}
use Rattle.row_bytes.specs.Reading.{◌>>=◌, Fails, HasHead, number_at, field_at, row_at, key_of, last_key, rows_at}
use Rattle.vclock.proofs.ByteLaws.{IsBytes}
use Rattle.row_bytes.proofs.FieldLaws.{bind_ok, guard_ok, passed_ok, ok_is}
use Rattle.row_bytes.proofs.Heads.{HasBegun}
use Rattle.row_bytes.proofs.RowLaws.{few, row_takes, row_again, row_rest_within, row_within, IsWithin}

-- what follows a length of two bytes is shorter
field_shorter : (bytes : List ℕ) (x : ℕ × List ℕ) → field_at w16 (few 255) bytes ≡ Ok x → length x.1 < length bytes
field_shorter bytes x e =
    let n = bind_ok (number_at w16 bytes) (λ n. cond (few 255 n.0) (Ok n) (Err (length bytes))) x e in
    let p = passed_ok (few 255 n.0.0) (length bytes) (Ok n.0) x n.2 in
    let g = guard_ok (ltb (length bytes) (byte_len w16)) (length bytes)
    (from_be_bytes w16 (take (byte_len w16) bytes), drop (byte_len w16) bytes) n.0 n.1 in
    let long : 2 ≤ length bytes = ltb-false _ _ g.0 in
    let rest : drop 2 bytes ≡ x.1 = ap (λ (y : ℕ × List ℕ). y.1) (g.1 ∙ ok_is n.0 x p.1) in
    omega (arith, long, ap length rest, length-drop 2 bytes)

-- a row takes a byte at least
pub row_shorter : (format : Format) (bytes : List ℕ) (x : Row × List ℕ) → row_at format bytes ≡ Ok x → length x.1 < length bytes
unfolding row_at
row_shorter format bytes x e =
    let a = bind_ok (field_at w16 (few 255) bytes) _ x e in
    let less = field_shorter bytes a.0 a.1 in
    let within : length x.1 ≤ length a.0.1 = subst (λ (r : Result (Row × List ℕ) ℕ). IsWithin (length a.0.1) r) a.2
    (row_rest_within (length a.0.1) format a.0 (omega arith)) in
    omega (arith, less, within)

-- the key of the row that was added last
pub last_key-push : (rows : List Row) (r : Row) → last_key (rows ++ r ∷ []) ≡ r.key
unfolding last_key
last_key-push rows r =
    let n : length (rows ++ r ∷ []) ≡ length rows + 1 = length-append rows (r ∷ []) in
    let less : length rows < length (rows ++ r ∷ []) = omega (arith, n) in
    let here : length (rows ++ r ∷ []) - 1 ≡ length rows = omega (arith, n) in
    ap key_of (ap (slice_get (rows ++ r ∷ [])) here ∙ slice_get-get_or (rows ++ r ∷ []) (length rows) r less
    ∙ ap (λ (x : Row). Some x) (get_or-append_seam rows r [] r))

-- no row has no key
pub last_key-none : last_key [] ≡ []
unfolding last_key
last_key-none = refl

-- ---- one step

-- no bytes are no more rows
rows_end : (format : Format) (most : ℕ) (last : List ℕ) (before : List Row) → rows_at format most last before [] ≡ Ok before
unfolding rows_at
rows_end format zero last before = refl
rows_end format (suc most) last before = refl

-- a row whose key is greater is added
rows_step : (format : Format) (most : ℕ) (last : List ℕ) (before : List Row) (bytes : List ℕ) (r : Row) (after : List ℕ)
    → row_at format bytes ≡ Ok (r, after) → is_before last r.key ≡ true
    → rows_at format (suc most) last before bytes ≡ rows_at format most r.key (before ++ r ∷ []) after
unfolding rows_at
rows_step format most last before [] r after e t = let less = row_shorter format [] (r, after) e in absurd (omega (arith, less))
rows_step format most last before (b ∷ bytes) r after e t = rw (e, t) refl

-- another row is broken
rows_refuse : (format : Format) (most : ℕ) (last : List ℕ) (before : List Row) (bytes : List ℕ) (r : Row) (after : List ℕ)
    → row_at format bytes ≡ Ok (r, after) → is_before last r.key ≡ false → rows_at format (suc most) last before bytes ≡ Err (length bytes)
unfolding rows_at
rows_refuse format most last before [] r after e f = let less = row_shorter format [] (r, after) e in absurd (omega (arith, less))
rows_refuse format most last before (b ∷ bytes) r after e f = rw (e, f) refl

-- a row that can't be read ends the reading
rows_stop : (format : Format) (most : ℕ) (last : List ℕ) (before : List Row) (bytes : List ℕ) (left : ℕ) → 0 < length bytes
    → row_at format bytes ≡ Err left → rows_at format (suc most) last before bytes ≡ Err left
unfolding rows_at
rows_stop format most last before [] left some e = absurd (omega arith)
rows_stop format most last before (b ∷ bytes) left some e = rw e refl

-- ---- a loop over rows

-- the rows so far, and what reading the rest adds to them
pub record IsOnTheWay (format : Format) (rows : List Row) (rest : List ℕ) (total : Result (List Row) ℕ) : Type 0 where
  pub most : ℕ
  pub enough : length rest ≤ most
  pub so_far : rows_at format most (last_key rows) rows rest ≡ total

-- a loop begins with no row
pub way_begins : (format : Format) (text : List ℕ) → IsOnTheWay format [] text (rows_at format (length text) [] [] text)
way_begins format text =
    record { most = length text; enough = omega arith; so_far = ap (λ (k : List ℕ). rows_at format (length text) k [] text) last_key-none }

-- one more row was read, where so many may come at the most
goes_on : (format : Format) (most : ℕ) (rows : List Row) (rest : List ℕ) (r : Row) (after : List ℕ) (total : Result (List Row) ℕ) → length rest ≤ most
    → row_at format rest ≡ Ok (r, after) → is_before (last_key rows) r.key ≡ true → rows_at format most (last_key rows) rows rest ≡ total
    → IsOnTheWay format (rows ++ r ∷ []) after total
goes_on format zero rows rest r after total enough e t so_far = let less = row_shorter format rest (r, after) e in absurd (omega (arith, less))
goes_on format (suc most) rows rest r after total enough e t so_far =
    let less = row_shorter format rest (r, after) e in
    record {
      most = most;
      enough = omega (arith, less);
      so_far = ap (λ (k : List ℕ). rows_at format most k (rows ++ r ∷ []) after) (last_key-push rows r)
          ∙ sym (rows_step format most (last_key rows) rows rest r after e t) ∙ so_far;
    }

-- it goes on with one more row
pub way_goes_on : (format : Format) (rows : List Row) (rest : List ℕ) (r : Row) (after : List ℕ) (total : Result (List Row) ℕ)
    → IsOnTheWay format rows rest total → row_at format rest ≡ Ok (r, after) → is_before (last_key rows) r.key ≡ true
    → IsOnTheWay format (rows ++ r ∷ []) after total
way_goes_on format rows rest r after total way e t = goes_on format way.most rows rest r after total way.enough e t way.so_far

-- it is done where nothing is left
pub way_done : (format : Format) (rows : List Row) (rest : List ℕ) (total : Result (List Row) ℕ) → IsOnTheWay format rows rest total → rest ≡ []
    → total ≡ Ok rows
way_done format rows rest total way none = sym way.so_far ∙ ap (rows_at format way.most (last_key rows) rows) none
    ∙ rows_end format way.most (last_key rows) rows

-- a row was read whose key isn't greater, where so many may come at the most
refused : (format : Format) (most : ℕ) (rows : List Row) (rest : List ℕ) (r : Row) (after : List ℕ) (total : Result (List Row) ℕ) → length rest ≤ most
    → row_at format rest ≡ Ok (r, after) → is_before (last_key rows) r.key ≡ false → rows_at format most (last_key rows) rows rest ≡ total
    → total ≡ Err (length rest)
refused format zero rows rest r after total enough e f so_far = let less = row_shorter format rest (r, after) e in absurd (omega (arith, less))
refused format (suc most) rows rest r after total enough e f so_far = sym so_far ∙ rows_refuse format most (last_key rows) rows rest r after e f

-- it ends at a row whose key isn't greater
pub way_refused : (format : Format) (rows : List Row) (rest : List ℕ) (r : Row) (after : List ℕ) (total : Result (List Row) ℕ)
    → IsOnTheWay format rows rest total → row_at format rest ≡ Ok (r, after) → is_before (last_key rows) r.key ≡ false → total ≡ Err (length rest)
way_refused format rows rest r after total way e f = refused format way.most rows rest r after total way.enough e f way.so_far

-- a row could not be read, where so many may come at the most
ended : (format : Format) (most : ℕ) (rows : List Row) (rest : List ℕ) (left : ℕ) (total : Result (List Row) ℕ) → length rest ≤ most → 0 < length rest
    → row_at format rest ≡ Err left → rows_at format most (last_key rows) rows rest ≡ total → total ≡ Err left
ended format zero rows rest left total enough some e so_far = absurd (omega arith)
ended format (suc most) rows rest left total enough some e so_far = sym so_far ∙ rows_stop format most (last_key rows) rows rest left some e

-- it ends at a row that can't be read
pub way_ended : (e : ReadError) (format : Format) (rows : List Row) (text rest : List ℕ) (total : Result (List Row) ℕ)
    → IsOnTheWay format rows rest total → HasBegun text rest → 0 < length rest → Fails (HasHead rest) e (row_at format rest)
    → Fails (HasHead text) e total
way_ended errors.Memory format rows text rest total way begun some h = elim begun [ inl same ↦ subst HasHead same h | inr head ↦ head ]
way_ended (errors.Left left) format rows text rest total way begun some h = ended format way.most rows rest left total way.enough some h way.so_far

-- ---- laws

-- what reading rows read
pub record ReadRows (format : Format) (last : List ℕ) (before : List Row) (bytes : List ℕ) (all : List Row) : Type 0 where
  pub new : List Row
  pub all_is : all ≡ before ++ new
  pub text : bytes ≡ flat_map (row_text format) new
  pub each : AllByRecursion (IsRow format) new
  pub ascending : KeysAscend last new

-- rows that were read after others are spelled so
rows_taken : (format : Format) (most : ℕ) (last : List ℕ) (before : List Row) (bytes : List ℕ) (all : List Row) → IsBytes bytes
    → rows_at format most last before bytes ≡ Ok all → ReadRows format last before bytes all
unfolding rows_at
rows_taken format zero last before [] all fits e =
    record { new = []; all_is = sym (ok_is before all e) ∙ sym (append-nil before); text = refl; each = tt; ascending = tt }
rows_taken format (suc most) last before [] all fits e =
    record { new = []; all_is = sym (ok_is before all e) ∙ sym (append-nil before); text = refl; each = tt; ascending = tt }
rows_taken format zero last before (b ∷ bytes) all fits e = absurd cc
rows_taken format (suc most) last before (b ∷ bytes) all fits e =
    let a = bind_ok (row_at format (b ∷ bytes))
    (λ r. cond (is_before last r.0.key) (rows_at format most r.0.key (before ++ r.0 ∷ []) r.1) (Err (length (b ∷ bytes)))) all e in
    let row = row_takes format (b ∷ bytes) a.0 fits a.1 in
    let p = passed_ok (is_before last a.0.0.key) (length (b ∷ bytes)) (rows_at format most a.0.0.key (before ++ a.0.0 ∷ []) a.0.1) all a.2 in
    let h = rows_taken format most a.0.0.key (before ++ a.0.0 ∷ []) a.0.1 all row.0.rest_fits p.1 in
    record {
      new = a.0.0 ∷ h.new;
      all_is = h.all_is ∙ append_assoc before (a.0.0 ∷ []) h.new;
      text = row.0.parts ∙ ap (λ (t : List ℕ). row_text format a.0.0 ++ t) h.text;
      each = (row.1, h.each);
      ascending = (p.0, h.ascending);
    }

-- rows that were read are rows, and spelled so
pub rows_takes : (format : Format) (most : ℕ) (bytes : List ℕ) (rows : List Row) → IsBytes bytes → rows_at format most [] [] bytes ≡ Ok rows
    → AreRows format rows × (bytes ≡ flat_map (row_text format) rows)
rows_takes format most bytes rows fits e =
    let read = rows_taken format most [] [] bytes rows fits e in
    subst (λ (rs : List Row). AreRows format rs × (bytes ≡ flat_map (row_text format) rs)) (sym read.all_is)
    (record { each = read.each; ascending = read.ascending }, read.text)

-- rows that are spelled so are read after others
rows_go : (format : Format) (most : ℕ) (last : List ℕ) (before new : List Row) → length (flat_map (row_text format) new) ≤ most
    → AllByRecursion (IsRow format) new → KeysAscend last new → rows_at format most last before (flat_map (row_text format) new) ≡ Ok (before ++ new)
rows_go format most last before [] enough each ascending = rows_end format most last before ∙ ap (λ (rs : List Row). Ok rs) (sym (append-nil before))
rows_go format zero last before (r ∷ rs) enough each ascending =
    let less = row_shorter format (row_text format r ++ flat_map (row_text format) rs) (r, flat_map (row_text format) rs)
    (row_again format r (flat_map (row_text format) rs) each.0) in
    absurd (omega (arith, less))
rows_go format (suc most) last before (r ∷ rs) enough each ascending =
    let again = row_again format r (flat_map (row_text format) rs) each.0 in
    let less = row_shorter format (row_text format r ++ flat_map (row_text format) rs) (r, flat_map (row_text format) rs) again in
    rows_step format most last before (row_text format r ++ flat_map (row_text format) rs) r (flat_map (row_text format) rs) again ascending.0
    ∙ rows_go format most r.key (before ++ r ∷ []) rs (omega (arith, less)) each.1 ascending.1
    ∙ ap (λ (all : List Row). Ok all) (append_assoc before (r ∷ []) rs)

-- rows that are spelled so are read
pub rows_again : (format : Format) (rows : List Row) → AreRows format rows
    → rows_at format (length (flat_map (row_text format) rows)) [] [] (flat_map (row_text format) rows) ≡ Ok rows
rows_again format rows h = rows_go format (length (flat_map (row_text format) rows)) [] [] rows (omega arith) h.each h.ascending

-- the text of rows is read as those rows
pub rows_read : (format : Format) (text : List ℕ) (rows : List Row) → AreRows format rows → text ≡ flat_map (row_text format) rows
    → rows_at format (length text) [] [] text ≡ Ok rows
rows_read format text rows h spelled = ap (λ (t : List ℕ). rows_at format (length t) [] [] t) spelled ∙ rows_again format rows h

-- what reading that failed says: the bytes are no text of rows
pub no_rows_here : (format : Format) (text : List ℕ) (left : ℕ) → rows_at format (length text) [] [] text ≡ Err left → (rows : List Row)
    → AreRows format rows → text ≡ flat_map (row_text format) rows → ⊥
no_rows_here format text left e rows h spelled = let a = rows_read format text rows h spelled in cc

-- an error as a result of rows
abbrev failed : ℕ → Result (List Row) ℕ
failed left = Err left

-- two equal errors leave as many bytes
err_is : (m n : ℕ) → failed m ≡ failed n → m ≡ n
err_is m n e = cc

-- whichever way a test went, the error is within
either_within : (limit here left : ℕ) (b : Bool) (r : Result (List Row) ℕ) → here ≤ limit → (r ≡ Err left → left ≤ limit)
    → cond b r (Err here) ≡ Err left → left ≤ limit
either_within limit here left true r h next e = next e
either_within limit here left false r h next e = let same : here ≡ left = err_is here left e in omega (arith, same)

-- a broken field stands within the bytes
rows_within : (limit : ℕ) (format : Format) (most : ℕ) (last : List ℕ) (before : List Row) (bytes : List ℕ) (left : ℕ) → length bytes ≤ limit
    → rows_at format most last before bytes ≡ Err left → left ≤ limit
unfolding rows_at
rows_within limit format zero last before [] left h e = absurd cc
rows_within limit format (suc most) last before [] left h e = absurd cc
rows_within limit format zero last before (b ∷ bytes) left h e = let same : length (b ∷ bytes) ≡ left = err_is (length (b ∷ bytes)) left e in
    omega (arith, same)
rows_within limit format (suc most) last before (b ∷ bytes) left h e =
    elim (row_at format (b ∷ bytes)) as
    (λ r. IsWithin limit r → (r >>=
    (λ r. cond (is_before last r.0.key) (rows_at format most r.0.key (before ++ r.0 ∷ []) r.1) (Err (length (b ∷ bytes))))) ≡ Err left
    → left ≤ limit) [
      | Ok x ↦ λ within found. either_within limit (length (b ∷ bytes)) left (is_before last x.0.key)
          (rows_at format most x.0.key (before ++ x.0 ∷ []) x.1) h
          (λ e. rows_within limit format most x.0.key (before ++ x.0 ∷ []) x.1 left within e) found
      | Err d ↦ λ within found. let same : d ≡ left = err_is d left found in omega (arith, same)
    ] (row_within limit format (b ∷ bytes) h) e

-- where the text of rows is broken, it is broken within the text
pub rows_broken_within : (format : Format) (text : List ℕ) (left : ℕ) → rows_at format (length text) [] [] text ≡ Err left → left ≤ length text
rows_broken_within format text left e = rows_within (length text) format (length text) [] [] text left (omega arith) e

-- what the test for bytes that are left says
pub some_left : (b : Bool) (rest : List ℕ) → b ≡ eqb (length rest) 0 → b ≡ false → 0 < length rest
some_left b rest is f = let some = eqb-false (length rest) 0 (sym is ∙ f) in omega (arith, some)

-- the test for bytes that are left says that none are
pub none_left : (b : Bool) (rest : List ℕ) → b ≡ eqb (length rest) 0 → b ≡ true → rest ≡ []
none_left b [] is t = refl
none_left b (x ∷ rest) is t = let none = eqb-true (length (x ∷ rest)) 0 (sym is ∙ t) in absurd (omega (arith, none))
