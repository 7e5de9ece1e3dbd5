-- What callers rely on.
use Rattle.std.proofs.Common.{◌≡◌, ℕ, zero, suc, ◌<◌, ◌≤◌, Bool, true, false, cond, ◌&&◌, ◌||◌, Option, Some, None, List, [], ◌∷◌, ◌++◌, length}
use Rattle.std.proofs.Common.{get_or, take, append_assoc, refl, sym, ap, subst, ◌∙◌, arith, inl, inr, eq-eqb}
use Rattle.std.proofs.Math.Seq.{take-length}
use Rattle.std.specs.Prelude.{nat_eq, not, slice_get, filter, All, Any, Contains}
use Rattle.std.specs.Cmp.Lexicographic.{pointwise}
use Rattle.std.specs.Ordering.{is_eq}
use Rattle.std.specs.List.{AllByRecursion}
use Rattle.std.proofs.lemmas.Bool.{cases_lt, cases_Bool, lt-ltb, le-ltb, or_right}
use Rattle.std.proofs.lemmas.Cmp.{tied_itself}
use Rattle.std.proofs.lemmas.List.{length-append}
use Rattle.std.proofs.lemmas.List.Elements.{All-from_recursion, All-weaker}
use Rattle.std.proofs.lemmas.List.Folds.{list_any_at}
use Rattle.std.proofs.lemmas.Slice.Eq.{bytes_eq-Decides}
use Rattle.version_set.specs.declared.version.Version.{Version}
use Rattle.version_set.specs.Version.{covered, is_same, is_below}
use Rattle.version_set.proofs.ListLaws.{all-filter}
use Rattle.version_set.proofs.SetLaws.{version_total}
use Rattle.range_journal.specs.declared.journal.Entry.{Entry}
use Rattle.range_journal.specs.Journal.{held, versions_of}
use Rattle.range_journal.proofs.JournalLaws.{covered-held, contains_cons, contains_later}
use Rattle.caller_pass.specs.declared.reading.Reading.{Reading}
use Rattle.caller_pass.specs.Passes.{PassView, new_pass, new_passes}
use Rattle.caller_pass.specs.Locks.{Locked, IsLocked, is_missing, first_missing, missing_fault, behind_fault}
use Rattle.range_state.specs.State.{State}
use Rattle.range_state.specs.Renewals.{renewed_by}
use Rattle.range_store.proofs.RenewLaws.{renewed_holds}
use Rattle.caller_pass.specs.Closings.{of_seat, IsTrueReading, IsSettled, AllThere}

-- ---- own writes

covers_here : (e : Entry) (key : List ℕ) (S : List Version) → is_missing e key S ≡ false → e.key ≡ key → covered e.version S ≡ true
unfolding is_missing
covers_here e key S there same =
    by_cover (covered e.version S) (subst (λ (b : Bool). (b && not (covered e.version S)) ≡ false) ((bytes_eq-Decides e.key key).1 same) there)
  where
    by_cover : (b : Bool) → (true && not b) ≡ false → b ≡ true
    by_cover true h = refl
    by_cover false h = absurd (cc)

none_missing : (es : List Entry) (key : List ℕ) (S : List Version) → first_missing es key S ≡ None
    → AllByRecursion (λ (e : Entry). e.key ≡ key → covered e.version S ≡ true) es
none_missing [] key S none = tt
none_missing (e ∷ es) key S none = elim (cases_Bool (is_missing e key S)) [
  | inl missing ↦ absurd (let no : Some e.number ≡ None = rw missing at none in cc)
  | inr there ↦ (covers_here e key S there, none_missing es key S (rw there at none))
]

no_fault : (seen journal : ℕ) (o : Option ℕ) → missing_fault seen journal o ≡ None → o ≡ None
no_fault seen journal None none = refl
no_fault seen journal (Some n) none = absurd (cc)

pub own_writes : (entries : List Entry) (p : PassView) (key : List ℕ) → behind_fault entries p key ≡ None
    → (p.seen ≤ length entries) × All (λ (e : Entry). e.key ≡ key → covered e.version (held entries key) ≡ true) p.receipts
own_writes entries p key none = elim (cases_lt (length entries) p.seen) [
  | inl short ↦ absurd (let no : Some _ ≡ None = rw (lt-ltb (length entries) p.seen short) at none in cc)
  | inr long ↦
      let missing : missing_fault p.seen (length entries) (first_missing p.receipts key (held entries key)) ≡ None = rw
      (le-ltb (length entries) p.seen long) at none in (
        long,
        All-from_recursion (λ (e : Entry). e.key ≡ key → covered e.version (held entries key) ≡ true) p.receipts
            (none_missing p.receipts key (held entries key)
            (no_fault p.seen (length entries) (first_missing p.receipts key (held entries key)) missing)),
      )
]

-- ---- readings

-- two lists that may begin with the same version
covers_with : (v w : Version) (b : Bool) (S T : List Version) → (covered v S ≡ true → covered v T ≡ true) → covered v (cond b (w ∷ S) S) ≡ true
    → covered v (cond b (w ∷ T) T) ≡ true
covers_with v w false S T more h = more h
covers_with v w true S T more h = by_first (is_same v w || is_below v w) h
  where
    by_first : (c : Bool) → (c || covered v S) ≡ true → (c || covered v T) ≡ true
    by_first true g = refl
    by_first false g = more g

-- more entries cover what fewer do
covers_more : (v : Version) (key : List ℕ) (es : List Entry) (m n : ℕ) → m ≤ n → covered v (versions_of (take m es) key) ≡ true
    → covered v (versions_of (take n es) key) ≡ true
covers_more v key es zero n le h = absurd (cc)
covers_more v key es (suc m) zero le h = absurd (omega arith)
covers_more v key [] (suc m) (suc n) le h = h
covers_more v key (e ∷ es) (suc m) (suc n) le h =
    covers_with v e.version (pointwise nat_eq e.key key) (versions_of (take m es) key) (versions_of (take n es) key)
    (covers_more v key es m n (omega arith)) h

-- a member covers itself
covers_member : (S : List Version) (k : ℕ) (d : Version) → k < length S → covered (get_or S k d) S ≡ true
covers_member S k d below =
    let v = get_or S k d in
    let same : is_same v v ≡ true = ap is_eq (tied_itself version_total v) in
    list_any_at (λ w. is_same v w || is_below v w) S k d below (rw same refl)

pub never_back : (entries : List Entry) (r s : Reading) → IsTrueReading entries r → IsTrueReading entries s → r.key ≡ s.key → r.front ≤ s.front
    → All (λ v. covered v s.versions ≡ true) r.versions
never_back entries r s is later key le k d below =
    let v = get_or r.versions k d in
    let first : covered v (held (take r.front entries) r.key) ≡ true = ap (covered v) is.versions ∙ covers_member r.versions k d below in
    let more = covers_more v r.key entries r.front s.front le (sym (covered-held v (take r.front entries) r.key) ∙ first) in
    ap (covered v) (sym later.versions) ∙ ap (λ (x : List ℕ). covered v (held (take s.front entries) x)) (sym key)
    ∙ covered-held v (take s.front entries) r.key ∙ more

-- ---- renewed ranges

-- what a list of entries covers is covered by a longer one
covers_behind : (v : Version) (key : List ℕ) (before es : List Entry) → covered v (versions_of es key) ≡ true
    → covered v (versions_of (before ++ es) key) ≡ true
covers_behind v key [] es h = h
covers_behind v key (x ∷ before) es h = by_key (pointwise nat_eq x.key key) (covers_behind v key before es h)
  where
    by_key : (b : Bool) → covered v (versions_of (before ++ es) key) ≡ true
        → covered v (cond b (x.version ∷ versions_of (before ++ es) key) (versions_of (before ++ es) key)) ≡ true
    by_key true h = or_right (is_same v x.version || is_below v x.version) (covered v (versions_of (before ++ es) key)) h
    by_key false h = h

-- each entry's version is covered
covers_entry : (e : Entry) (es : List Entry) → covered e.version (versions_of (e ∷ es) e.key) ≡ true
covers_entry e es =
    let same : is_same e.version e.version ≡ true = ap is_eq (tied_itself version_total e.version) in
    rw ((bytes_eq-Decides e.key e.key).1 refl, same) refl

covers_entries : (before es : List Entry) → AllByRecursion (λ (e : Entry). covered e.version (versions_of (before ++ es) e.key) ≡ true) es
covers_entries before [] = tt
covers_entries before (e ∷ es) = (
  covers_behind e.version e.key before (e ∷ es) (covers_entry e es),
  subst (λ (all : List Entry). AllByRecursion (λ (x : Entry). covered x.version (versions_of all x.key) ≡ true) es) (append_assoc before (e ∷ []) es)
      (covers_entries (before ++ e ∷ []) es),
)

-- what is covered in a range is covered in its renewal
renewed_covers : (s : State) (seat limit : ℕ) (v : Version) (key : List ℕ) → covered v (held s.store.entries key) ≡ true
    → covered v (held (renewed_by s seat limit).store.entries key) ≡ true
renewed_covers s seat limit v key h = ap (covered v) (renewed_holds s.store seat key) ∙ h

pub renewed_receipts : (s : State) (seat limit : ℕ) (p : PassView) → IsSettled s.store.entries p
    → All (λ (e : Entry). covered e.version (held (renewed_by s seat limit).store.entries e.key) ≡ true) p.receipts
renewed_receipts s seat limit p is =
    let IsCovered : Entry → Type 0 = λ e. covered e.version (versions_of s.store.entries e.key) ≡ true in
    let each : All IsCovered (of_seat p.seat s.store.entries) = All-from_recursion IsCovered (of_seat p.seat s.store.entries)
    (all-filter IsCovered (λ e. nat_eq e.seat p.seat) s.store.entries (covers_entries [] s.store.entries)) in
    subst (All (λ (e : Entry). covered e.version (held (renewed_by s seat limit).store.entries e.key) ≡ true)) (sym is.receipts)
    (All-weaker IsCovered (λ (e : Entry). covered e.version (held (renewed_by s seat limit).store.entries e.key) ≡ true)
    (λ e h. renewed_covers s seat limit e.version e.key (covered-held e.version s.store.entries e.key ∙ h)) (of_seat p.seat s.store.entries) each)

-- a reading of all entries
abbrev whole : List Entry → List ℕ → Reading
whole entries key = record { front = length entries; key = key; versions = held entries key }

pub renewed_readings : (s : State) (seat limit : ℕ) (p : PassView) → IsSettled s.store.entries p
    → All (λ (r : Reading). All (λ (v : Version). covered v (held (renewed_by s seat limit).store.entries r.key) ≡ true) r.versions) p.readings
renewed_readings s seat limit p is =
    All-weaker (IsTrueReading s.store.entries)
    (λ (r : Reading). All (λ (v : Version). covered v (held (renewed_by s seat limit).store.entries r.key) ≡ true) r.versions)
    (λ r true_of.
    let now : IsTrueReading s.store.entries (whole s.store.entries r.key) = record {
      within = omega arith;
      versions = ap (λ (es : List Entry). held es r.key) (take-length s.store.entries);
    } in
    All-weaker (λ (v : Version). covered v (held s.store.entries r.key) ≡ true)
    (λ (v : Version). covered v (held (renewed_by s seat limit).store.entries r.key) ≡ true)
    (λ v h. renewed_covers s seat limit v r.key h) r.versions
    (never_back s.store.entries r (whole s.store.entries r.key) true_of now refl true_of.within))
    p.readings is.readings

-- ---- closed ranges

in_filter : {X : Type 0} (p : X → Bool) (xs : List X) (x : X) → Contains xs x → p x ≡ true → Contains (filter p xs) x
in_filter p [] x has test = absurd (omega (arith, has.1))
in_filter p (y ∷ ys) x has test = elim (contains_cons y ys x has) [
  | inl same ↦ rw (ap p same ∙ test) (0, omega arith, same)
  | inr later ↦ elim (p y) as (λ b. Contains (cond b (y ∷ filter p ys) (filter p ys)) x) [
    | true ↦ contains_later y (filter p ys) x (in_filter p ys x later test)
    | false ↦ in_filter p ys x later test
  ]
]

pub each_entry_kept : (seats : ℕ) (l : Locked) (passes : List PassView) → IsLocked seats l → AllThere seats passes
    → All (IsSettled l.state.store.entries) passes → (e : Entry) → Contains l.state.store.entries e
    → Any (λ (p : PassView). Contains p.receipts e) passes
each_entry_kept seats l passes ok there settled e has =
    let seat : e.seat < seats = subst (λ (x : Entry). x.seat < seats) has.2
    (All-from_recursion (λ (x : Entry). x.seat < seats) l.state.store.entries ok.seated has.0 e has.1) in
    let pass = there e.seat seat in
    let p : PassView = pass.0 in
    let at = pass.1 in
    let is : IsSettled l.state.store.entries p = subst (IsSettled l.state.store.entries) at.2 (settled at.0 p at.1) in
    let mine : nat_eq e.seat p.seat ≡ true = eq-eqb e.seat p.seat (sym pass.2) in
    let shown : Contains p.receipts e = subst (λ (xs : List Entry). Contains xs e) (sym is.receipts)
    (in_filter (λ (x : Entry). nat_eq x.seat p.seat) l.state.store.entries e has mine) in
    (at.0, p, at.1, at.2, shown)

-- ---- new passes

length-new_passes : (n : ℕ) → length (new_passes n) ≡ n
length-new_passes zero = refl
length-new_passes (suc n) = omega (arith, length-append (new_passes n) (new_pass n ∷ []), length-new_passes n)

get-before : {X : Type 0} (xs ys : List X) (k : ℕ) → k < length xs → slice_get (xs ++ ys) k ≡ slice_get xs k
get-before [] ys k below = absurd (omega arith)
get-before (x ∷ xs) ys zero below = refl
get-before (x ∷ xs) ys (suc k) below = get-before xs ys k (omega arith)

get-after : {X : Type 0} (xs : List X) (y : X) → slice_get (xs ++ y ∷ []) (length xs) ≡ Some y
get-after [] y = refl
get-after (x ∷ xs) y = get-after xs y

each_new_pass : (n k : ℕ) → k < n → slice_get (new_passes n) k ≡ Some (new_pass k)
each_new_pass zero k below = absurd (omega arith)
each_new_pass (suc n) k below = elim (cases_lt k n) [
  | inl before ↦ get-before (new_passes n) (new_pass n ∷ []) k (omega (arith, length-new_passes n)) ∙ each_new_pass n k before
  | inr last ↦
      let is : k ≡ n = omega arith in
      subst (λ (j : ℕ). slice_get (new_passes n ++ new_pass n ∷ []) j ≡ Some (new_pass k)) (length-new_passes n ∙ sym is)
      (get-after (new_passes n) (new_pass n) ∙ ap (λ (j : ℕ). Some (new_pass j)) (sym is))
]

pub passes_of_seats : (n : ℕ) → (length (new_passes n) ≡ n) × ((k : ℕ) → k < n → slice_get (new_passes n) k ≡ Some (new_pass k))
passes_of_seats n = (length-new_passes n, each_new_pass n)
