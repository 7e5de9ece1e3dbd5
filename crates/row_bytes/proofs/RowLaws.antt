-- Rows that were read are spelled so, and rows that are spelled so are read.
use Rattle.std.proofs.Common.{◌≡◌, ℕ, zero, suc, ◌^◌, ◌≤◌, Bool, true, false, ◌&&◌, cond, leb, ltb, eqb, take, drop, Result, List, [], ◌∷◌, ◌++◌}
use Rattle.std.proofs.Common.{length, None, Ok, Err, refl, sym, ap, subst, ◌∙◌, append_assoc, arith}
use Rattle.std.specs.Int.{Width, w8, w16, w32, w64, byte_len, from_be_bytes, to_be_bytes}
use Rattle.std.specs.List.{flat_map, list_all, AllByRecursion}
use Rattle.std.proofs.lemmas.Bool.{and_from, and_parts, leb-true, le-leb, le-ltb, ltb-false, ne_eqb, eqb-false, or_parts}
use Rattle.std.proofs.lemmas.List.{append-nil, length-drop}
use Rattle.vclock.specs.Bytes.{key_fault}
use Rattle.vclock.specs.declared.format.Format.{Format}
use Rattle.vclock.specs.declared.format.Format.TheVariants.{One, Two}
use Rattle.version_set.specs.declared.version.Version.{Version}
use Rattle.version_set.specs.Version.{version_text, IsVersionSet}
use Rattle.version_set.proofs.ListLaws.{all-inner, all-push}
use Rattle.row_bytes.specs.declared.row.Row.{Row}
use Rattle.row_bytes.specs.Rows.{is_before, is_apart, row_text, IsVersion, AreAscending, AreApart, IsRow, BeginsWithKey}
use Rattle.row_bytes.specs.Reading.{◌>>=◌, number_at, field_at, bytes_at, pair_at, pairs_at, kind_at, longest_value, version_at, may_follow}
use Rattle.row_bytes.specs.Reading.{versions_at, row_at}
use Rattle.vclock.proofs.ByteLaws.{IsBytes}
use Rattle.row_bytes.proofs.FieldLaws.{bind_ok, passed_ok, ok_is, Takes, Takes-none, Takes-then, wide16, field_takes, field_again, bytes_takes}
use Rattle.row_bytes.proofs.FieldLaws.{bytes_again}
use Rattle.row_bytes.proofs.Laws.{version_takes, version_again}
use Rattle.row_bytes.proofs.LimitLaws.{no_fault}
use Rattle.row_bytes.proofs.RowSetLaws.{set_of}

-- ---- versions one after another

-- versions that are apart, and one more that is apart from each
apart_push : (before : List Version) (v : Version) → AreApart before → list_all (λ u. is_apart u v) before ≡ true → AreApart (before ++ v ∷ [])
apart_push [] v h e = (tt, tt)
apart_push (u ∷ us) v h e =
    let b = and_parts (is_apart u v) (list_all (λ u. is_apart u v) us) e in
    (all-push (λ (w : Version). is_apart u w ≡ true) us v h.0 b.0, apart_push us v h.1 b.1)

-- a version is apart from each before it
apart_at : (before : List Version) (v : Version) (after : List Version) → AreApart (before ++ v ∷ after) → list_all (λ u. is_apart u v) before ≡ true
apart_at [] v after h = refl
apart_at (u ∷ us) v after h =
    and_from (is_apart u v) (list_all (λ u. is_apart u v) us)
    (all-inner (λ (w : Version). is_apart u w ≡ true) us v after h.0) (apart_at us v after h.1)

-- what a loop over versions read after those before
pub record ReadVersions (format : Format) (k : ℕ) (last : List ℕ) (before : List Version) (bytes : List ℕ) (all : List Version)
    (rest : List ℕ) : Type 0 where
  pub new : List Version
  pub all_is : all ≡ before ++ new
  pub count : length new ≡ k
  pub takes : Takes bytes (flat_map (version_text format) new) rest
  pub each : AllByRecursion (IsVersion format) new
  pub ascending : AreAscending format last new
  pub apart : AreApart before → AreApart all

-- versions that were read are spelled so
versions_takes : (format : Format) (k : ℕ) (last : List ℕ) (before : List Version) (bytes : List ℕ) (x : List Version × List ℕ) → IsBytes bytes
    → versions_at format k last before bytes ≡ Ok x → ReadVersions format k last before bytes x.0 x.1
unfolding versions_at may_follow
versions_takes format zero last before bytes x fits e =
    subst (λ (y : List Version × List ℕ). ReadVersions format zero last before bytes y.0 y.1) (ok_is (before, bytes) x e)
    (record { new = []; all_is = sym (append-nil before); count = refl; takes = Takes-none bytes fits; each = tt; ascending = tt; apart = λ h. h })
versions_takes format (suc k) last before bytes x fits e =
    let a = bind_ok (version_at format bytes)
    (λ v. cond (may_follow format last before v.0) (versions_at format k (version_text format v.0) (before ++ v.0 ∷ []) v.1) (Err (length bytes)))
    x e in
    let v = version_takes format bytes a.0 fits a.1 in
    let p = passed_ok (may_follow format last before a.0.0) (length bytes)
    (versions_at format k (version_text format a.0.0) (before ++ a.0.0 ∷ []) a.0.1) x a.2 in
    let may = and_parts (is_before last (version_text format a.0.0)) (list_all (λ u. is_apart u a.0.0) before) p.0 in
    let h = versions_takes format k (version_text format a.0.0) (before ++ a.0.0 ∷ []) a.0.1 x v.0.rest_fits p.1 in
    record {
      new = a.0.0 ∷ h.new;
      all_is = h.all_is ∙ append_assoc before (a.0.0 ∷ []) h.new;
      count = omega (arith, h.count);
      takes = Takes-then bytes (version_text format a.0.0) a.0.1 (flat_map (version_text format) h.new) x.1 v.0 h.takes;
      each = (v.1, h.each);
      ascending = (may.0, h.ascending);
      apart = λ q. h.apart (apart_push before a.0.0 q may.1);
    }

-- versions that are spelled so are read
versions_again : (format : Format) (last : List ℕ) (before new : List Version) (rest : List ℕ) → AllByRecursion (IsVersion format) new
    → AreAscending format last new → AreApart (before ++ new)
    → versions_at format (length new) last before (flat_map (version_text format) new ++ rest) ≡ Ok (before ++ new, rest)
unfolding versions_at may_follow
versions_again format last before [] rest each ascending apart = ap (λ (vs : List Version). Ok (vs, rest)) (sym (append-nil before))
versions_again format last before (v ∷ vs) rest each ascending apart =
    let first : version_at format ((version_text format v ++ flat_map (version_text format) vs) ++ rest) ≡ Ok
    (v, flat_map (version_text format) vs ++ rest) =
    ap (version_at format) (append_assoc (version_text format v) (flat_map (version_text format) vs) rest)
    ∙ version_again format v (flat_map (version_text format) vs ++ rest) each.0 in
    let may : (is_before last (version_text format v) && list_all (λ u. is_apart u v) before) ≡ true = and_from _ _ ascending.0
    (apart_at before v vs apart) in
    let grouped : (before ++ v ∷ []) ++ vs ≡ before ++ v ∷ vs = append_assoc before (v ∷ []) vs in
    rw (first, may) (versions_again format (version_text format v) (before ++ v ∷ []) vs rest each.1 ascending.1 (rw grouped apart)
    ∙ ap (λ (vs : List Version). Ok (vs, rest)) grouped)

-- ---- rows

-- whether a count is from 1 up to the most
abbrev pub few : ℕ → ℕ → Bool
few most n = leb 1 n && leb n most

-- a key of 1 to 255 bytes
key_of : (key : List ℕ) → 1 ≤ length key → length key ≤ 255 → key_fault key ≡ None
key_of key some short = rw (ne_eqb (length key) 0 (omega arith), le-ltb 255 (length key) short) refl

-- a key's length is within the limits
record HasKeyLength (key : List ℕ) : Type 0 where
  pub some : 1 ≤ length key
  pub short : length key ≤ 255

-- a key with no fault is within the limits
key_limits : (key : List ℕ) → key_fault key ≡ None → HasKeyLength key
key_limits key h =
    let parts = or_parts (eqb (length key) 0) (ltb 255 (length key)) (no_fault _ _ h) in
    let some = eqb-false _ _ parts.0 in
    let short = ltb-false _ _ parts.1 in
    record { some = omega (arith, some); short = short }

-- a key that was read at the front is spelled there
pub key_takes : (bytes : List ℕ) (len : ℕ × List ℕ) (key : List ℕ × List ℕ) → IsBytes bytes → field_at w16 (few 255) bytes ≡ Ok len
    → bytes_at len.0 len.1 ≡ Ok key → BeginsWithKey bytes key.0 key.1
key_takes bytes len key fits l k =
    let front = field_takes w16 (2 ^ 16) wide16 (few 255) bytes len fits l in
    let text = bytes_takes len.0 len.1 key front.takes.rest_fits k in
    let limits = and_parts (leb 1 len.0) (leb len.0 255) front.passed in
    let both = Takes-then bytes (to_be_bytes w16 len.0) len.1 key.0 key.1 front.takes text.0 in
    record {
      fits = key_of key.0 (rw text.1 (leb-true _ _ limits.0)) (rw text.1 (leb-true _ _ limits.1));
      text_is = both.parts ∙ ap (λ (n : ℕ). to_be_bytes w16 n ++ key.0 ++ key.1) (sym text.1);
    }

-- the versions that were read are a set
set_read : (format : Format) (count : ℕ) (bytes : List ℕ) (x : List Version × List ℕ) → IsBytes bytes → count ≤ 64
    → versions_at format count [] [] bytes ≡ Ok x → IsVersionSet x.0
set_read format count bytes x fits few e =
    let read = versions_takes format count [] [] bytes x fits e in
    let same : read.new ≡ x.0 = sym read.all_is in
    set_of format x.0
    (subst (λ (ws : List Version). AllByRecursion (IsVersion format) ws) same read.each)
    (subst (λ (ws : List Version). AreAscending format [] ws) same read.ascending)
    (read.apart tt)
    (subst (λ (ws : List Version). length ws ≤ 64) same (omega (arith, read.count)))

-- the versions of a row that is read are a set
pub set_in : (format : Format) (bytes : List ℕ) (len : ℕ × List ℕ) (key : List ℕ × List ℕ) (count : ℕ × List ℕ) (versions : List Version × List ℕ)
    → IsBytes bytes → field_at w16 (few 255) bytes ≡ Ok len → bytes_at len.0 len.1 ≡ Ok key → field_at w16 (few 64) key.1 ≡ Ok count
    → versions_at format count.0 [] [] count.1 ≡ Ok versions → IsVersionSet versions.0
set_in format bytes len key count versions fits l k n e =
    let front = field_takes w16 (2 ^ 16) wide16 (few 255) bytes len fits l in
    let key_front = bytes_takes len.0 len.1 key front.takes.rest_fits k in
    let field = field_takes w16 (2 ^ 16) wide16 (few 64) key.1 count key_front.0.rest_fits n in
    let range = and_parts (leb 1 count.0) (leb count.0 64) field.passed in
    set_read format count.0 count.1 versions field.takes.rest_fits (leb-true count.0 64 range.1) e

-- the parts of a row, read one after another: its key's length, its key, the count of its versions, and those
record ReadParts (format : Format) (bytes key : List ℕ) (vs : List Version) (rest : List ℕ) : Type 0 where
  pub len : ℕ
  pub after_len : List ℕ
  pub after_key : List ℕ
  pub count : ℕ
  pub after_count : List ℕ
  pub len_takes : Takes bytes (to_be_bytes w16 len) after_len
  pub len_fits : (leb 1 len ≡ true) × (leb len 255 ≡ true)
  pub key_takes : Takes after_len key after_key
  pub key_len : length key ≡ len
  pub count_takes : Takes after_key (to_be_bytes w16 count) after_count
  pub count_fits : (leb 1 count ≡ true) × (leb count 64 ≡ true)
  pub read : ReadVersions format count [] [] after_count vs rest

-- the parts of a row that were read, put together
made_row : (format : Format) (bytes key : List ℕ) (vs : List Version) (rest : List ℕ) → ReadParts format bytes key vs rest
    → Takes bytes (row_text format (record { key = key; versions = vs })) rest × IsRow format (record { key = key; versions = vs })
unfolding row_text
made_row format bytes key vs rest parts =
    let r1 = parts.after_len in
    let r2 = parts.after_key in
    let r3 = parts.after_count in
    let read = parts.read in
    let key_len = parts.key_len in
    let same : read.new ≡ vs = sym read.all_is in
    let many : length vs ≡ parts.count = subst (λ (ws : List Version). length ws ≡ parts.count) same read.count in
    let len_field : Takes bytes (to_be_bytes w16 (length key)) r1 =
    subst (λ (n : ℕ). Takes bytes (to_be_bytes w16 n) r1) (sym key_len) parts.len_takes in
    let count_field : Takes r2 (to_be_bytes w16 (length vs)) r3 = subst (λ (n : ℕ). Takes r2 (to_be_bytes w16 n) r3) (sym many) parts.count_takes in
    let versions : Takes r3 (flat_map (version_text format) vs) rest = subst
    (λ (ws : List Version). Takes r3 (flat_map (version_text format) ws) rest) same read.takes in
    let front = Takes-then bytes (to_be_bytes w16 (length key)) r1 key r2 len_field parts.key_takes in
    let more = Takes-then bytes (to_be_bytes w16 (length key) ++ key) r2 (to_be_bytes w16 (length vs)) r3 front count_field in (
      Takes-then bytes ((to_be_bytes w16 (length key) ++ key) ++ to_be_bytes w16 (length vs)) r3
          (flat_map (version_text format) vs) rest more versions,
      record {
        key = key_of key (rw key_len (leb-true _ _ parts.len_fits.0)) (rw key_len (leb-true _ _ parts.len_fits.1));
        some = rw many (leb-true _ _ parts.count_fits.0);
        few = rw many (leb-true _ _ parts.count_fits.1);
        each = subst (λ (ws : List Version). AllByRecursion (IsVersion format) ws) same read.each;
        ascending = subst (λ (ws : List Version). AreAscending format [] ws) same read.ascending;
        apart = read.apart tt;
      },
    )

-- a row that was read is spelled so
pub row_takes : (format : Format) (bytes : List ℕ) (x : Row × List ℕ) → IsBytes bytes → row_at format bytes ≡ Ok x
    → Takes bytes (row_text format x.0) x.1 × IsRow format x.0
unfolding row_at row_text
row_takes format bytes x fits e =
    let a = bind_ok (field_at w16 (few 255) bytes)
    (λ len. bytes_at len.0 len.1 >>= λ key. field_at w16 (few 64) key.1 >>= λ count. versions_at format count.0 [] [] count.1 >>= λ versions. Ok
    (record { key = key.0; versions = versions.0 }, versions.1)) x e in
    let b = bind_ok (bytes_at a.0.0 a.0.1)
    (λ key. field_at w16 (few 64) key.1 >>= λ count. versions_at format count.0 [] [] count.1 >>= λ versions. Ok
    (record { key = key.0; versions = versions.0 }, versions.1)) x a.2 in
    let c = bind_ok (field_at w16 (few 64) b.0.1)
    (λ count. versions_at format count.0 [] [] count.1 >>= λ versions. Ok (record { key = b.0.0; versions = versions.0 }, versions.1)) x b.2 in
    let d = bind_ok (versions_at format c.0.0 [] [] c.0.1) (λ versions. Ok (record { key = b.0.0; versions = versions.0 }, versions.1)) x c.2 in
    let len = field_takes w16 (2 ^ 16) wide16 (few 255) bytes a.0 fits a.1 in
    let key = bytes_takes a.0.0 a.0.1 b.0 len.takes.rest_fits b.1 in
    let count = field_takes w16 (2 ^ 16) wide16 (few 64) b.0.1 c.0 key.0.rest_fits c.1 in
    let versions = versions_takes format c.0.0 [] [] c.0.1 d.0 count.takes.rest_fits d.1 in
    subst (λ (y : Row × List ℕ). Takes bytes (row_text format y.0) y.1 × IsRow format y.0)
    (ok_is (record { key = b.0.0; versions = d.0.0 }, d.0.1) x d.2)
    (made_row format bytes b.0.0 d.0.0 d.0.1 (record {
      len = a.0.0;
      after_len = a.0.1;
      after_key = b.0.1;
      count = c.0.0;
      after_count = c.0.1;
      len_takes = len.takes;
      len_fits = and_parts _ _ len.passed;
      key_takes = key.0;
      key_len = key.1;
      count_takes = count.takes;
      count_fits = and_parts _ _ count.passed;
      read = versions;
    }))

-- a row that is spelled so is read
pub row_again : (format : Format) (r : Row) (rest : List ℕ) → IsRow format r → row_at format (row_text format r ++ rest) ≡ Ok (r, rest)
unfolding row_at row_text
row_again format r rest h =
    let key = key_limits r.key h.key in
    let last = flat_map (version_text format) r.versions ++ rest in
    let regrouped : row_text format r ++ rest ≡ to_be_bytes w16
    (length r.key) ++ (r.key ++ (to_be_bytes w16 (length r.versions) ++ (flat_map (version_text format) r.versions ++ rest))) =
    simp append_assoc in
    let len = field_again w16 (2 ^ 16) wide16 (few 255) (length r.key)
    (r.key ++ (to_be_bytes w16 (length r.versions) ++ (flat_map (version_text format) r.versions ++ rest))) (omega (arith, key.short))
    (and_from _ _ (le-leb _ _ key.some) (le-leb _ _ key.short)) in
    let count = field_again w16 (2 ^ 16) wide16 (few 64) (length r.versions) (flat_map (version_text format) r.versions ++ rest)
    (omega (arith, h.few)) (and_from _ _ (le-leb _ _ h.some) (le-leb _ _ h.few)) in
    let versions = versions_again format [] [] r.versions rest h.each h.ascending h.apart in
    ap (row_at format) regrouped
    ∙ rw (
      len,
      bytes_again r.key (to_be_bytes w16 (length r.versions) ++ (flat_map (version_text format) r.versions ++ rest)),
      count,
      versions,
    ) refl

-- two rows' texts, each followed by anything, that are the same bytes
pub one_row : (format : Format) (r s : Row) (x y : List ℕ) → IsRow format r → IsRow format s → row_text format r ++ x ≡ row_text format s ++ y
    → (r ≡ s) × (x ≡ y)
one_row format r s x y p q e =
    let both : (r, x) ≡ (s, y) = ok_is (r, x) (s, y) (sym (row_again format r x p) ∙ (ap (row_at format) e ∙ row_again format s y q)) in
    (ap (λ (p : Row × List ℕ). p.0) both, ap (λ (p : Row × List ℕ). p.1) both)

-- what reading that failed says: no front of the bytes is a row's text
pub none_here : (format : Format) (bytes : List ℕ) (left : ℕ) → row_at format bytes ≡ Err left → (r : Row) (rest : List ℕ) → IsRow format r
    → bytes ≡ row_text format r ++ rest → ⊥
none_here format bytes left e r rest h spelled =
    let a : row_at format bytes ≡ Ok (r, rest) = ap (row_at format) spelled ∙ row_again format r rest h in
    cc

-- ---- where reading stops

-- what is left, or what stands from the broken field on, is no longer than that
abbrev pub IsWithin : {A : Type 0} → ℕ → Result (A × List ℕ) ℕ → Type 0
IsWithin limit (Ok x) = length x.1 ≤ limit
IsWithin limit (Err left) = left ≤ limit

-- a step that stays within, then another
within_then : {A B : Type 0} (limit : ℕ) (r : Result (A × List ℕ) ℕ) (f : A × List ℕ → Result (B × List ℕ) ℕ) → IsWithin limit r
    → ((x : A × List ℕ) → length x.1 ≤ limit → IsWithin limit (f x)) → IsWithin limit (r >>= f)
within_then limit (Ok x) f h next = next x h
within_then limit (Err left) f h next = h

-- whichever way a test goes
within_either : {A : Type 0} (limit : ℕ) (b : Bool) (r s : Result (A × List ℕ) ℕ) → IsWithin limit r → IsWithin limit s → IsWithin limit (cond b r s)
within_either limit true r s p q = p
within_either limit false r s p q = q

-- reading a number stays within the bytes
number_within : (limit : ℕ) (w : Width) (bytes : List ℕ) → length bytes ≤ limit → IsWithin limit (number_at w bytes)
number_within limit w bytes h =
    within_either limit (ltb (length bytes) (byte_len w)) (Err (length bytes))
    (Ok (from_be_bytes w (take (byte_len w) bytes), drop (byte_len w) bytes)) h (omega (arith, length-drop (byte_len w) bytes))

-- reading a tested number stays within the bytes
field_within : (limit : ℕ) (w : Width) (good : ℕ → Bool) (bytes : List ℕ) → length bytes ≤ limit → IsWithin limit (field_at w good bytes)
field_within limit w good bytes h =
    within_then limit (number_at w bytes) (λ n. cond (good n.0) (Ok n) (Err (length bytes))) (number_within limit w bytes h)
    (λ n le. within_either limit (good n.0) (Ok n) (Err (length bytes)) le h)

-- reading bytes stays within them
bytes_within : (limit n : ℕ) (bytes : List ℕ) → length bytes ≤ limit → IsWithin limit (bytes_at n bytes)
bytes_within limit n bytes h =
    within_either limit (ltb (length bytes) n) (Err (length bytes)) (Ok (take n bytes, drop n bytes)) h (omega (arith, length-drop n bytes))

-- reading a pair stays within the bytes
pair_within : (limit above : ℕ) (bytes : List ℕ) → length bytes ≤ limit → IsWithin limit (pair_at above bytes)
unfolding pair_at
pair_within limit above bytes h =
    within_then limit (field_at w16 (ltb above) bytes) _ (field_within limit w16 (ltb above) bytes h) (λ node le.
    within_then limit (field_at w64 (ltb 0) node.1) _ (field_within limit w64 (ltb 0) node.1 le) (λ counter le. le))

-- reading pairs stays within the bytes
pairs_within : (limit k above : ℕ) (before : List (ℕ × ℕ)) (bytes : List ℕ) → length bytes ≤ limit → IsWithin limit (pairs_at k above before bytes)
unfolding pairs_at
pairs_within limit zero above before bytes h = h
pairs_within limit (suc k) above before bytes h =
    within_then limit (pair_at above bytes) _ (pair_within limit above bytes h)
    (λ pair le. pairs_within limit k pair.0.0 (before ++ pair.0 ∷ []) pair.1 le)

-- reading a kind stays within the bytes
kind_within : (limit : ℕ) (format : Format) (bytes : List ℕ) → length bytes ≤ limit → IsWithin limit (kind_at format bytes)
unfolding kind_at
kind_within limit One bytes h = h
kind_within limit Two bytes h = within_then limit (field_at w8 (λ n. leb n 1) bytes) _ (field_within limit w8 (λ n. leb n 1) bytes h) (λ byte le. le)

-- reading a version stays within the bytes
version_within : (limit : ℕ) (format : Format) (bytes : List ℕ) → length bytes ≤ limit → IsWithin limit (version_at format bytes)
unfolding version_at
version_within limit format bytes h =
    within_then limit (kind_at format bytes) _ (kind_within limit format bytes h) (λ kind le.
    within_then limit (field_at w8 (λ n. leb n 32) kind.1) _ (field_within limit w8 (λ n. leb n 32) kind.1 le) (λ count le.
    within_then limit (pairs_at count.0 0 [] count.1) _ (pairs_within limit count.0 0 [] count.1 le) (λ pairs le.
    within_then limit (field_at w32 (λ n. leb n (longest_value format kind.0)) pairs.1) _
    (field_within limit w32 (λ n. leb n (longest_value format kind.0)) pairs.1 le) (λ len le.
    within_then limit (bytes_at len.0 len.1) _ (bytes_within limit len.0 len.1 le) (λ value le. le)))))

-- reading versions stays within the bytes
versions_within : (limit : ℕ) (format : Format) (k : ℕ) (last : List ℕ) (before : List Version) (bytes : List ℕ) → length bytes ≤ limit
    → IsWithin limit (versions_at format k last before bytes)
unfolding versions_at
versions_within limit format zero last before bytes h = h
versions_within limit format (suc k) last before bytes h =
    within_then limit (version_at format bytes) _ (version_within limit format bytes h) (λ v le.
    within_either limit (may_follow format last before v.0) (versions_at format k (version_text format v.0) (before ++ v.0 ∷ []) v.1)
    (Err (length bytes)) (versions_within limit format k (version_text format v.0) (before ++ v.0 ∷ []) v.1 le) h)

-- a row behind the length of its key
pub row_rest_within : (limit : ℕ) (format : Format) (len : ℕ × List ℕ) → length len.1 ≤ limit
    → IsWithin {A = Row} limit
    (bytes_at len.0 len.1 >>= λ key. field_at w16 (few 64) key.1 >>= λ count. versions_at format count.0 [] [] count.1 >>= λ versions. Ok
    (record { key = key.0; versions = versions.0 }, versions.1))
row_rest_within limit format len le =
    within_then limit (bytes_at len.0 len.1) _ (bytes_within limit len.0 len.1 le) (λ key le.
    within_then limit (field_at w16 (few 64) key.1) _ (field_within limit w16 (few 64) key.1 le) (λ count le.
    within_then limit (versions_at format count.0 [] [] count.1) _ (versions_within limit format count.0 [] [] count.1 le) (λ versions le. le)))

-- reading a row stays within the bytes
pub row_within : (limit : ℕ) (format : Format) (bytes : List ℕ) → length bytes ≤ limit → IsWithin limit (row_at format bytes)
unfolding row_at
row_within limit format bytes h =
    within_then limit (field_at w16 (few 255) bytes) _ (field_within limit w16 (few 255) bytes h) (λ len le. row_rest_within limit format len le)

-- a broken field stands within the bytes
pub broken_within : (format : Format) (bytes : List ℕ) (left : ℕ) → row_at format bytes ≡ Err left → left ≤ length bytes
broken_within format bytes left e =
    subst (λ (r : Result (Row × List ℕ) ℕ). IsWithin (length bytes) r) e (row_within (length bytes) format bytes (omega arith))
