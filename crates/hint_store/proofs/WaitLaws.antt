-- Laws of the index.
use Rattle.std.proofs.Common.{◌≡◌, ℕ, ◌+◌, ◌-◌, ◌<◌, ◌≤◌, ◌^◌, ◌⊎◌, Bool, true, false, ◌&&◌, cond, List, [], ◌∷◌, length, get_or, set, Some, None}
use Rattle.std.proofs.Common.{length-set, refl, ap, sym, subst, ◌∙◌, inl, inr, arith}
use Rattle.std.proofs.lemmas.Option.{slice_get_cases}
use Rattle.std.specs.Prelude.{slice_get, find, nat_eq, nat_lt, nat_le, count_by, AllPairs}
use Rattle.std.specs.List.{list_any, insert, remove}
use Rattle.std.specs.List.Sorted.{IsPartitionedBy, IsPartitionPoint}
use Rattle.std.proofs.lemmas.Bool.{and_parts, and_from, or_parts, or_cases, or_left, or_right, cases_Bool, eqb-true, eq-eqb, ne_eqb, leb-true}
use Rattle.std.proofs.lemmas.Bool.{le-leb, ltb-true, ltb-false, lt-ltb, false_from_ne_true, both_ways, cases_lt, cases_eq, cases_order, and_right}
use Rattle.std.proofs.lemmas.List.Folds.{Any-from_list_any}
use Rattle.std.proofs.lemmas.List.Sums.{sum_by-cons, sum_by_push, sum_by-set, sum_by-remove, sum_by-insert, length-filter, count_by-le-length}
use Rattle.std.proofs.lemmas.List.Quantifiers.{all_pairs_remove}
use Rattle.std.proofs.lemmas.List.Edits.{length-insert, get_or-insert_below, get_or-insert_at, get_or-insert_above}
use Rattle.std.proofs.lemmas.List.{length_push}
use Rattle.version_set.specs.declared.version.Version.{Version}
use Rattle.vclock.specs.declared.refusal.Refusal.TheVariants.{HintsFull}
use Rattle.vclock.proofs.BoolLaws.{and-true}
use Rattle.hint_store.specs.declared.hint.Delivery.{Delivery}
use Rattle.hint_store.specs.declared.hint.Kept.{Kept}
use Rattle.hint_store.specs.declared.store.Waiting.{Waiting}
use Rattle.hint_store.specs.Hints.{is_undelivered, is_pending, pending_count, HaveIdsFrom, fate_of, is_due, with_hint, keep_fault, AreHints}
use Rattle.hint_store.specs.Waits.{id_of, IsBefore, is_up_to, waits_by, AreWaiting}
use Rattle.hint_store.proofs.HintLaws.{id_at, get_or_same, find_first, find_none, ids, AreNumberedFrom-push, AreNumberedFrom-confirmed, IsFound}
use Rattle.hint_store.proofs.HintLaws.{confirmed_at, fate_closed}

-- how many pass a test that all pass
count_all : {X : Type 0} (xs : List X) → count_by (λ _. true) xs ≡ length xs
count_all [] = refl
count_all {X} (x ∷ xs) = let e = sum_by-cons {X = X} (λ _. 1) x xs in omega (arith, e, count_all xs)

-- the index is as long as there are pending hints
pub waiting_count : (hints : List Kept) (index : List Waiting) → AreWaiting hints index → length index ≡ pending_count hints
waiting_count hints index a = sym (count_all index) ∙ a.all (λ _ _. true) ∙ sym (length-filter is_pending hints)

-- an entry up to which another is stands after all those before it
pub up_to-before : (owner id : ℕ) (v w : Waiting) → IsBefore v w → is_up_to owner id w ≡ true → is_up_to owner id v ≡ true
up_to-before owner id v w b t =
    let cases = or_cases (nat_lt w.owner owner) (nat_eq w.owner owner && nat_le w.id id) t in
    elim b [
      | inl less ↦ or_left (nat_lt v.owner owner) (nat_eq v.owner owner && nat_le v.id id) (lt-ltb v.owner owner (elim cases [
        | inl below ↦ omega (arith, ltb-true w.owner owner below)
        | inr same ↦ omega (arith, eqb-true w.owner owner (and_parts (nat_eq w.owner owner) (nat_le w.id id) same).0)
      ]))
      | inr later ↦ elim cases [
        | inl below ↦ or_left (nat_lt v.owner owner) (nat_eq v.owner owner && nat_le v.id id)
            (lt-ltb v.owner owner (omega (arith, ltb-true w.owner owner below, later.0)))
        | inr same ↦
            let parts = and_parts (nat_eq w.owner owner) (nat_le w.id id) same in
            or_right (nat_lt v.owner owner) (nat_eq v.owner owner && nat_le v.id id)
            (and_from (nat_eq v.owner owner) (nat_le v.id id) (eq-eqb v.owner owner (later.0 ∙ eqb-true w.owner owner parts.0))
            (le-leb v.id id (omega (arith, later.1, leb-true w.id id parts.1))))
      ]
    ]

-- in an ascending index the entries up to one come first
pub index_partitioned : (owner id : ℕ) (index : List Waiting) → AllPairs IsBefore index → IsPartitionedBy (is_up_to owner id) index
index_partitioned owner id index pairs i j d le h t = elim (cases_eq i j) [
  | inl same ↦ subst (λ m. is_up_to owner id (get_or index m d) ≡ true) (sym same) t
  | inr other ↦ up_to-before owner id (get_or index i d) (get_or index j d) (pairs i j d (omega arith) h) t
]

-- an entry that is not up to an owner and a number
pub not_up_to : (owner id : ℕ) (w : Waiting) → is_up_to owner id w ≡ false → (owner < w.owner) ⊎ ((w.owner ≡ owner) × (id < w.id))
not_up_to owner id w f =
    let parts = or_parts (nat_lt w.owner owner) (nat_eq w.owner owner && nat_le w.id id) f in
    let over : owner ≤ w.owner = ltb-false w.owner owner parts.0 in
    elim (cases_eq w.owner owner) [
      | inl same ↦ inr (
        same,
        elim (cases_lt id w.id) [
          | inl less ↦ less
          | inr not ↦ absurd (both_ways (nat_eq w.owner owner && nat_le w.id id) parts.1
              (and_from (nat_eq w.owner owner) (nat_le w.id id) (eq-eqb w.owner owner same) (le-leb w.id id not)))
        ],
      )
      | inr other ↦ inl (omega arith)
    ]

-- an entry that is up to an owner and a number
pub up_to : (owner id : ℕ) (w : Waiting) → is_up_to owner id w ≡ true → (w.owner < owner) ⊎ ((w.owner ≡ owner) × (w.id ≤ id))
up_to owner id w t = elim (or_cases (nat_lt w.owner owner) (nat_eq w.owner owner && nat_le w.id id) t) [
  | inl below ↦ inl (ltb-true w.owner owner below)
  | inr same ↦ let parts = and_parts (nat_eq w.owner owner) (nat_le w.id id) same in inr (eqb-true w.owner owner parts.0, leb-true w.id id parts.1)
]

-- a list of which some pass a test has one that passes
some_pass : {X : Type 0} (p : X → Bool) (xs : List X) → 0 < count_by p xs → list_any p xs ≡ true
some_pass p [] h = absurd (omega arith)
some_pass {X} p (x ∷ xs) h = elim (cases_Bool (p x)) [
  | inl passes ↦ or_left (p x) (list_any p xs) passes
  | inr fails ↦
      let e : count_by p (x ∷ xs) ≡ cond {A = ℕ} (p x) 1 0 + count_by p xs = sum_by-cons {X = X} (λ y. cond (p y) 1 0) x xs in
      let none : cond {A = ℕ} (p x) 1 0 ≡ 0 = ap (λ b. cond {A = ℕ} b 1 0) fails in
      or_right (p x) (list_any p xs) (some_pass p xs (omega arith))
]

counted : {X : Type 0} (p : X → Bool) (xs : List X) (j : ℕ) (d : X) → j < length xs → p (get_or xs j d) ≡ true → 0 < count_by p xs
counted {X} p xs j d h passes =
    let e : count_by p (remove xs j) + cond {A = ℕ} (p (get_or xs j d)) 1 0 ≡ count_by p xs = sum_by-remove {X = X} (λ y. cond (p y) 1 0) xs j d h in
    let one : cond {A = ℕ} (p (get_or xs j d)) 1 0 ≡ 1 = ap (λ b. cond {A = ℕ} b 1 0) passes in
    omega arith

-- the index has an entry of an owner and a number
pub record HasEntry (index : List Waiting) (owner id : ℕ) : Type 0 where
  pub place : ℕ
  pub entry : Waiting
  pub inside : place < length index
  pub stands : get_or index place entry ≡ entry
  pub same_owner : entry.owner ≡ owner
  pub same_id : entry.id ≡ id

-- the hints have a pending one of an owner and a number
pub record HasPending (hints : List Kept) (owner id : ℕ) : Type 0 where
  pub place : ℕ
  pub kept : Kept
  pub inside : place < length hints
  pub stands : get_or hints place kept ≡ kept
  pub pending : is_pending kept ≡ true
  pub same_owner : kept.hint.owner ≡ owner
  pub same_id : kept.hint.id ≡ id

are_same : (a b c d : ℕ) → (nat_eq a c && nat_eq b d) ≡ true → (a ≡ c) × (b ≡ d)
are_same a b c d t = let parts = and_parts (nat_eq a c) (nat_eq b d) t in (eqb-true a c parts.0, eqb-true b d parts.1)

pub entry_of : (hints : List Kept) (index : List Waiting) (j : ℕ) (d : Kept) → AreWaiting hints index → j < length hints
    → is_pending (get_or hints j d) ≡ true → HasEntry index (get_or hints j d).hint.owner (get_or hints j d).hint.id
entry_of hints index j d a h pending =
    let k : Kept = get_or hints j d in
    let p : ℕ → ℕ → Bool = λ o i. nat_eq o k.hint.owner && nat_eq i k.hint.id in
    let passes : waits_by p k ≡ true = and_from (p k.hint.owner k.hint.id) (is_pending k)
    (and_from (nat_eq k.hint.owner k.hint.owner) (nat_eq k.hint.id k.hint.id) (eq-eqb k.hint.owner k.hint.owner refl)
    (eq-eqb k.hint.id k.hint.id refl)) pending in
    let some : 0 < count_by (waits_by p) hints = counted (waits_by p) hints j d h passes in
    let found = Any-from_list_any (λ (w : Waiting). p w.owner w.id) index
    (some_pass (λ (w : Waiting). p w.owner w.id) index (subst (λ n. 0 < n) (sym (a.all p)) some)) in
    let same = are_same found.1.owner found.1.id k.hint.owner k.hint.id found.4 in
    record { place = found.0; entry = found.1; inside = found.2; stands = found.3; same_owner = same.0; same_id = same.1 }

pub pending_of : (hints : List Kept) (index : List Waiting) (m : ℕ) (d : Waiting) → AreWaiting hints index → m < length index
    → HasPending hints (get_or index m d).owner (get_or index m d).id
pending_of hints index m d a h =
    let w : Waiting = get_or index m d in
    let p : ℕ → ℕ → Bool = λ o i. nat_eq o w.owner && nat_eq i w.id in
    let passes : p w.owner w.id ≡ true = and_from (nat_eq w.owner w.owner) (nat_eq w.id w.id) (eq-eqb w.owner w.owner refl) (eq-eqb w.id w.id refl) in
    let some : 0 < count_by (λ (v : Waiting). p v.owner v.id) index = counted (λ (v : Waiting). p v.owner v.id) index m d h passes in
    let found = Any-from_list_any (waits_by p) hints (some_pass (waits_by p) hints (subst (λ n. 0 < n) (a.all p) some)) in
    let parts = and_parts (p found.1.hint.owner found.1.hint.id) (is_pending found.1) found.4 in
    let same = are_same found.1.hint.owner found.1.hint.id w.owner w.id parts.0 in
    record { place = found.0; kept = found.1; inside = found.2; stands = found.3; pending = parts.1; same_owner = same.0; same_id = same.1 }

-- an entry over an owner and a number stands after the place of these
pub stands_after : (index : List Waiting) (owner after p : ℕ) (id : ℕ) (w : HasEntry index owner id)
    → IsPartitionPoint (λ v. is_up_to owner after v ≡ true) (λ v. is_up_to owner after v ≡ false) index p → after < w.entry.id → p ≤ w.place
stands_after index owner after p id w at over = elim (cases_lt w.place p) [
  | inr later ↦ later
  | inl before ↦ absurd (elim
      (up_to owner after w.entry (subst (λ v. is_up_to owner after v ≡ true) w.stands (at.0 w.place w.entry (omega arith) before))) [
        | inl less ↦ omega (arith, w.same_owner)
        | inr same ↦ omega (arith, same.1)
      ])
]

-- what a due hint of one owner is
pub record IsDue (owner after : ℕ) (k : Kept) : Type 0 where
  pub pending : is_pending k ≡ true
  pub over : after < k.hint.id
  pub same_owner : k.hint.owner ≡ owner

due_parts : (o after : ℕ) (k : Kept) → is_due (o ∷ []) after k ≡ true → IsDue o after k
due_parts o after k t =
    let parts = and_parts (is_pending k && nat_lt after k.hint.id) (list_any (nat_eq k.hint.owner) (o ∷ [])) t in
    let front = and_parts (is_pending k) (nat_lt after k.hint.id) parts.0 in
    record {
      pending = front.0;
      over = ltb-true after k.hint.id front.1;
      same_owner = elim (or_cases (nat_eq k.hint.owner o) false parts.1) [
        | inl same ↦ eqb-true k.hint.owner o same
        | inr never ↦ absurd
            (both_ways false refl never)
      ];
    }

due_from : (o after : ℕ) (k : Kept) → IsDue o after k → is_due (o ∷ []) after k ≡ true
due_from o after k due =
    and_from (is_pending k && nat_lt after k.hint.id) (list_any (nat_eq k.hint.owner) (o ∷ []))
    (and_from (is_pending k) (nat_lt after k.hint.id) due.pending (lt-ltb after k.hint.id due.over))
    (or_left (nat_eq k.hint.owner o) false (eq-eqb k.hint.owner o due.same_owner))

-- the entry of a due hint stands at the place after its owner and `after`, or later
due_entry : (hints : List Kept) (index : List Waiting) (o after p k : ℕ) (d : Kept) → AreWaiting hints index
    → IsPartitionPoint (λ v. is_up_to o after v ≡ true) (λ v. is_up_to o after v ≡ false) index p → k < length hints
    → is_due (o ∷ []) after (get_or hints k d) ≡ true
    → (w : HasEntry index o (get_or hints k d).hint.id) × (p ≤ w.place)
due_entry hints index o after p k d a at h t =
    let due = due_parts o after (get_or hints k d) t in
    let w : HasEntry index o (get_or hints k d).hint.id = subst (λ x. HasEntry index x (get_or hints k d).hint.id) due.same_owner
    (entry_of hints index k d a h due.pending) in
    (w, stands_after index o after p (get_or hints k d).hint.id w at (omega (arith, w.same_id, due.over)))

-- if no entry of the owner stands at the place, no hint is due
no_due : (hints : List Kept) (index : List Waiting) (o after p : ℕ) → AreWaiting hints index
    → IsPartitionPoint (λ v. is_up_to o after v ≡ true) (λ v. is_up_to o after v ≡ false) index p
    → ((w : Waiting) → p < length index → get_or index p w ≡ w → o < w.owner) → find (is_due (o ∷ []) after) hints ≡ None
no_due hints index o after p a at other =
    find_none (is_due (o ∷ []) after) hints (λ k d h. false_from_ne_true (is_due (o ∷ []) after (get_or hints k d)) (λ t.
    let found = due_entry hints index o after p k d a at h t in
    let w = found.0 in
    let here : p < length index = omega (arith, found.1, w.inside) in
    let v : Waiting = get_or index p w.entry in
    let over : o < v.owner = other v here (get_or_same index p v w.entry here) in
    elim (cases_eq p w.place) [
      | inl same ↦ omega (arith, over, w.same_owner, ap (λ (u : Waiting). u.owner) (ap (λ m. get_or index m w.entry) same ∙ w.stands))
      | inr apart ↦ elim (subst (IsBefore v) w.stands (a.ascending p w.place w.entry (omega (arith, found.1)) w.inside)) [
        | inl less ↦ omega (arith, over, less, w.same_owner)
        | inr later ↦ omega (arith, over, later.0, w.same_owner)
      ]
    ]))

-- an owner's entry that stands at the place after all entries up to an id
record IsNextOf (index : List Waiting) (o after p : ℕ) (w : Waiting) : Type 0 where
  pub place_is : IsPartitionPoint (λ v. is_up_to o after v ≡ true) (λ v. is_up_to o after v ≡ false) index p
  pub within : p < length index
  pub stands : get_or index p w ≡ w
  pub same_owner : w.owner ≡ o
  pub over : after < w.id

-- if an entry of the owner stands at the place, its hint is the first that is due
one_due : (hints : List Kept) (index : List Waiting) (o after p : ℕ) (w : Waiting) → HaveIdsFrom 1 hints → AreWaiting hints index
    → IsNextOf index o after p w → ids (find (is_due (o ∷ []) after) hints) ≡ Some w.id
one_due hints index o after p w numbered a next =
    let here = next.within in
    let is = next.stands in
    let kept = pending_of hints index p w a here in
    let owner : kept.kept.hint.owner ≡ o = kept.same_owner ∙ (ap (λ (u : Waiting). u.owner) is ∙ next.same_owner) in
    let id : kept.kept.hint.id ≡ w.id = kept.same_id ∙ ap (λ (u : Waiting). u.id) is in
    let number : kept.kept.hint.id ≡ 1 + kept.place = ap (λ (x : Kept). x.hint.id) (sym kept.stands)
    ∙ id_at 1 hints kept.place kept.kept numbered kept.inside in
    let due : is_due (o ∷ []) after kept.kept ≡ true = due_from o after kept.kept
    (record { pending = kept.pending; over = omega (arith, id, next.over); same_owner = owner }) in
    let first = find_first (is_due (o ∷ []) after) hints kept.place kept.kept kept.inside
    (subst (λ x. is_due (o ∷ []) after x ≡ true) (sym kept.stands) due)
    (λ k less. false_from_ne_true (is_due (o ∷ []) after (get_or hints k kept.kept)) (λ t.
    let inside : k < length hints = omega (arith, kept.inside) in
    let found = due_entry hints index o after p k kept.kept a next.place_is inside t in
    let v = found.0 in
    let earlier : (get_or hints k kept.kept).hint.id ≡ 1 + k = id_at 1 hints k kept.kept numbered inside in
    elim (cases_eq p v.place) [
      | inl spot ↦
          let alike : w.id ≡ v.entry.id = ap (λ (u : Waiting). u.id)
          (sym is ∙ (get_or_same index p w v.entry here ∙ (ap (λ m. get_or index m v.entry) spot ∙ v.stands))) in
          omega (arith, alike, v.same_id, earlier, id, number)
      | inr apart ↦ elim (subst (λ u. IsBefore u v.entry) (get_or_same index p v.entry w here ∙ is)
          (subst (IsBefore (get_or index p v.entry)) v.stands (a.ascending p v.place v.entry (omega (arith, found.1)) v.inside))) [
            | inl before ↦ omega (arith, before, next.same_owner, v.same_owner)
            | inr later ↦ omega (arith, later.1, v.same_id, earlier, id, number)
          ]
    ])) in
    ap ids first ∙ ap (λ x. Some x) (ap (λ (x : Kept). x.hint.id) kept.stands ∙ id)

pub first_due : (hints : List Kept) (index : List Waiting) (o after p : ℕ) → HaveIdsFrom 1 hints → AreWaiting hints index
    → IsPartitionPoint (λ v. is_up_to o after v ≡ true) (λ v. is_up_to o after v ≡ false) index p
    → id_of o (slice_get index p) ≡ ids (find (is_due (o ∷ []) after) hints)
first_due hints index o after p numbered a at = elim (slice_get_cases index p).1 [
  | inr past ↦
      ap (id_of o) past.1 ∙ ap ids (sym (no_due hints index o after p a at (λ w here is. absurd (omega (arith, past.0)))))
  | inl there ↦
      let w : Waiting = there.0 in
      let fails : is_up_to o after w ≡ false = subst (λ u. is_up_to o after u ≡ false) there.3 (at.1 p w (omega arith) there.1) in
      ap (id_of o) there.2 ∙ elim (not_up_to o after w fails) [
        | inl over ↦ ap (λ b. cond b (Some w.id) None) (ne_eqb w.owner o (λ e. omega (arith, over, e)))
            ∙ ap ids (sym (no_due hints index o after p a at
            (λ v here is. subst (λ u. o < u.owner) (sym there.3 ∙ (get_or_same index p w v here ∙ is)) over)))
        | inr later ↦ ap (λ b. cond b (Some w.id) None) (eq-eqb w.owner o later.0)
            ∙ sym (one_due hints index o after p w numbered a
            (record { place_is = at; within = there.1; stands = there.3; same_owner = later.0; over = later.1 }))
      ]
]

pub pending_count_le : (hints : List Kept) → pending_count hints ≤ length hints
pending_count_le hints = omega (arith, length-filter is_pending hints, count_by-le-length is_pending hints)

before_at : (a b x y : Waiting) → a ≡ x → b ≡ y → IsBefore x y → IsBefore a b
before_at a b x y is is' before = subst (λ v. IsBefore v b) (sym is) (subst (λ v. IsBefore x v) (sym is') before)

-- an entry that is put in its place
insert_ascends : (index : List Waiting) (p : ℕ) (w : Waiting) → AllPairs IsBefore index → p ≤ length index
    → ((k : ℕ) (d : Waiting) → k < p → IsBefore (get_or index k d) w)
    → ((k : ℕ) (d : Waiting) → p ≤ k → k < length index → IsBefore w (get_or index k d)) → AllPairs IsBefore (insert index p w)
insert_ascends index p w pairs inside below above i j d less h =
    let grown : length (insert index p w) ≡ length index + 1 = length-insert index p w inside in
    let a : Waiting = get_or (insert index p w) i d in
    let b : Waiting = get_or (insert index p w) j d in
    elim (cases_order j p) [
      | inl at ↦ before_at a b (get_or index i d) w (get_or-insert_below index p w d i (omega arith) inside)
          (ap (λ m. get_or (insert index p w) m d) at ∙ get_or-insert_at index p w d inside) (below i d (omega arith))
      | inr apart ↦ elim apart [
        | inl under ↦ before_at a b (get_or index i d) (get_or index j d) (get_or-insert_below index p w d i (omega arith) inside)
            (get_or-insert_below index p w d j under inside) (pairs i j d less (omega arith))
        | inr over ↦
            let there : b ≡ get_or index (j - 1) d = ap (λ m. get_or (insert index p w) m d) (let up : j ≡ j - 1 + 1 = omega arith in up)
            ∙ get_or-insert_above index p w d (j - 1) (omega arith) inside in
            elim (cases_order i p) [
              | inl at ↦ before_at a b w (get_or index (j - 1) d)
                  (ap (λ m. get_or (insert index p w) m d) at ∙ get_or-insert_at index p w d inside) there
                  (above (j - 1) d (omega arith) (omega arith))
              | inr other ↦ elim other [
                | inl under ↦ before_at a b (get_or index i d) (get_or index (j - 1) d) (get_or-insert_below index p w d i under inside) there
                    (pairs i (j - 1) d (omega arith) (omega arith))
                | inr higher ↦
                    let here : a ≡ get_or index (i - 1) d = ap (λ m. get_or (insert index p w) m d) (let up : i ≡ i - 1 + 1 = omega arith in up)
                    ∙ get_or-insert_above index p w d (i - 1) (omega arith) inside in
                    before_at a b (get_or index (i - 1) d) (get_or index (j - 1) d) here there (pairs (i - 1) (j - 1) d (omega arith) (omega arith))
              ]
            ]
      ]
    ]

-- no entry has a number over the last hint's
id_within : (hints : List Kept) (index : List Waiting) (m : ℕ) (d : Waiting) → HaveIdsFrom 1 hints → AreWaiting hints index → m < length index
    → (get_or index m d).id ≤ length hints
id_within hints index m d numbered a h =
    let kept = pending_of hints index m d a h in
    let number : kept.kept.hint.id ≡ 1 + kept.place = ap (λ (x : Kept). x.hint.id) (sym kept.stands)
    ∙ id_at 1 hints kept.place kept.kept numbered kept.inside in
    omega (arith, number, kept.same_id, kept.inside)

-- one more hint, and its entry
pub AreWaiting-keep : (hints : List Kept) (index : List Waiting) (o p : ℕ) (key : List ℕ) (v : Version) → HaveIdsFrom 1 hints → AreWaiting hints index
    → IsPartitionPoint (λ w. is_up_to o (length hints) w ≡ true) (λ w. is_up_to o (length hints) w ≡ false) index p → p ≤ length index
    → AreWaiting (with_hint hints o key v) (insert index p (record { owner = o; id = length hints + 1 }))
AreWaiting-keep hints index o p key v numbered a at inside = record {
  ascending = insert_ascends index p w a.ascending inside
      (λ k d h. elim (up_to o (length hints) (get_or index k d) (at.0 k d (omega arith) h)) [
        | inl less ↦ inl less
        | inr same ↦ inr
            (same.0, omega (arith, same.1))
      ])
      (λ k d from h. elim (not_up_to o (length hints) (get_or index k d) (at.1 k d from h)) [
        | inl more ↦ inl more
        | inr same ↦ absurd
            (omega (arith, same.1, id_within hints index k d numbered a h))
      ]);
  all = λ test.
      let one : count_by (λ (u : Waiting). test u.owner u.id) (insert index p w) ≡ count_by (λ (u : Waiting). test u.owner u.id) index + cond {A = ℕ}
      (test o (length hints + 1)) 1 0 = sum_by-insert {X = Waiting} (λ u. cond (test u.owner u.id) 1 0) index p w in
      let two : count_by (waits_by test) (with_hint hints o key v) ≡ count_by (waits_by test) hints + cond {A = ℕ}
      (test o (length hints + 1) && true) 1 0 = sum_by_push {X = Kept} (λ k. cond (waits_by test k) 1 0) hints _ in
      let alike : cond {A = ℕ} (test o (length hints + 1) && true) 1 0 ≡ cond {A = ℕ} (test o (length hints + 1)) 1 0 = ap (λ b. cond {A = ℕ} b 1 0)
      (and-true (test o (length hints + 1))) in
      omega (arith, one, two, alike, a.all test);
}
  where
    w : Waiting
    w = record { owner = o; id = length hints + 1 }

pub AreHints-keep : (hints : List Kept) (o : ℕ) (key : List ℕ) (v : Version) → AreHints hints → keep_fault hints ≡ None
    → AreHints (with_hint hints o key v)
AreHints-keep hints o key v a free =
    let fits : (nat_lt (pending_count hints) 10000 && nat_lt (length hints + 1) (2 ^ 32)) ≡ true = elim
    (nat_lt (pending_count hints) 10000 && nat_lt (length hints + 1) (2 ^ 32)) as
    (λ b. cond b None (Some HintsFull) ≡ None → b ≡ true) [ true ↦ λ e. refl | false ↦ λ e. cc ] free in
    let parts = and_parts (nat_lt (pending_count hints) 10000) (nat_lt (length hints + 1) (2 ^ 32)) fits in
    let room = ltb-true (pending_count hints) 10000 parts.0 in
    let next = ltb-true (length hints + 1) (2 ^ 32) parts.1 in
    let grown : length (with_hint hints o key v) ≡ length hints + 1 = length_push hints _ in
    let count : count_by is_pending (with_hint hints o key v) ≡ count_by is_pending hints + 1 = sum_by_push {X = Kept}
    (λ k. cond (is_pending k) 1 0) hints _ in
    record {
      numbered = AreNumberedFrom-push 1 hints _ a.numbered (omega arith);
      few = omega (arith, count, room, length-filter is_pending hints, length-filter is_pending (with_hint hints o key v));
      small = omega (arith, grown, next);
    }

-- where the entry of a pending hint stands
pub record IsItsEntry (index : List Waiting) (p owner id : ℕ) : Type 0 where
  pub inside : p < length index
  pub entry : Waiting
  pub stands : get_or index p entry ≡ entry
  pub same_owner : entry.owner ≡ owner
  pub same_id : entry.id ≡ id

pub its_entry : (hints : List Kept) (index : List Waiting) (id p : ℕ) (d : Delivery) → AreWaiting hints index → IsFound hints id d
    → IsPartitionPoint (λ w. is_up_to d.owner (id - 1) w ≡ true) (λ w. is_up_to d.owner (id - 1) w ≡ false) index p → IsItsEntry index p d.owner id
its_entry hints index id p d a f at =
    let pending : is_pending (get_or hints (id - 1) f.kept) ≡ true = ap is_pending f.stands ∙ ap is_undelivered f.answered.is_pending in
    let w = entry_of hints index (id - 1) f.kept a f.inside pending in
    let owner : w.entry.owner ≡ d.owner = w.same_owner ∙ (ap (λ (k : Kept). k.hint.owner) f.stands ∙ f.answered.same_owner) in
    let number : w.entry.id ≡ id = w.same_id ∙ (ap (λ (k : Kept). k.hint.id) f.stands ∙ f.answered.same_id) in
    let mine : HasEntry index d.owner id = record {
      place = w.place;
      entry = w.entry;
      inside = w.inside;
      stands = w.stands;
      same_owner = owner;
      same_id = number;
    } in
    let from = stands_after index d.owner (id - 1) p id mine at (omega (arith, number, f.over)) in
    let here : p < length index = omega (arith, from, w.inside) in
    elim (cases_eq p w.place) [
      | inl same ↦ record {
        inside = here;
        entry = w.entry;
        stands = ap (λ m. get_or index m w.entry) same ∙ w.stands;
        same_owner = owner;
        same_id = number;
      }
      | inr apart ↦
          let v : Waiting = get_or index p w.entry in
          let before : IsBefore v w.entry = subst (IsBefore v) w.stands (a.ascending p w.place w.entry (omega (arith, from)) w.inside) in
          let after = not_up_to d.owner (id - 1) v (at.1 p w.entry (omega arith) here) in
          absurd (elim after [
            | inl more ↦ elim before [ inl less ↦ omega (arith, more, less, owner) | inr later ↦ omega (arith, more, later.0, owner) ]
            | inr same ↦ elim before [ inl less ↦ omega (arith, same.0, less, owner) | inr later ↦ omega (arith, same.1, later.1, number) ]
          ])
    ]

-- a hint that was answered, without its entry
pub AreWaiting-confirm : (hints : List Kept) (index : List Waiting) (id p : ℕ) (d : Delivery) → AreWaiting hints index → (f : IsFound hints id d)
    → IsItsEntry index p d.owner id
    → AreWaiting (set hints (id - 1) (record { hint = f.kept.hint; fate = fate_of d })) (remove index p)
AreWaiting-confirm hints index id p d a f e = record {
  ascending = all_pairs_remove IsBefore index p e.inside a.ascending;
  all = λ test.
      let k : Kept = record { hint = f.kept.hint; fate = fate_of d } in
      let one : count_by (λ (u : Waiting). test u.owner u.id) (remove index p) + cond {A = ℕ}
      (test (get_or index p e.entry).owner (get_or index p e.entry).id) 1 0 ≡ count_by (λ (u : Waiting). test u.owner u.id) index =
      sum_by-remove {X = Waiting} (λ u. cond (test u.owner u.id) 1 0) index p e.entry e.inside in
      let two : count_by (waits_by test) (set hints (id - 1) k) + cond {A = ℕ} (waits_by test (get_or hints (id - 1) f.kept)) 1 0 ≡ count_by
      (waits_by test) hints + cond {A = ℕ} (waits_by test k) 1 0 =
      sum_by-set {X = Kept} (λ x. cond (waits_by test x) 1 0) hints (id - 1) k f.kept f.inside in
      let gone : cond {A = ℕ} (waits_by test k) 1 0 ≡ 0 = ap (λ b. cond {A = ℕ} b 1 0)
      (and_right (test f.kept.hint.owner f.kept.hint.id) (is_pending k) (fate_closed d)) in
      let there : cond {A = ℕ} (test (get_or index p e.entry).owner (get_or index p e.entry).id) 1 0 ≡ cond {A = ℕ} (test d.owner id) 1 0 = ap
      (λ (u : Waiting). cond {A = ℕ} (test u.owner u.id) 1 0) e.stands ∙ (λ i. cond {A = ℕ} (test (e.same_owner i) (e.same_id i)) 1 0) in
      let here : cond {A = ℕ} (waits_by test (get_or hints (id - 1) f.kept)) 1 0 ≡ cond {A = ℕ} (test d.owner id) 1 0 =
      ap (λ (x : Kept). cond {A = ℕ} (waits_by test x) 1 0) f.stands
      ∙ ((λ i. cond {A = ℕ} (test (f.answered.same_owner i) (f.answered.same_id i) && is_undelivered (f.answered.is_pending i)) 1 0)
      ∙ ap (λ b. cond {A = ℕ} b 1 0) (and-true (test d.owner id))) in
      omega (arith, one, two, gone, there, here, a.all test);
}

pub AreHints-confirm : (hints : List Kept) (id : ℕ) (d : Delivery) → AreHints hints → (f : IsFound hints id d)
    → AreHints (set hints (id - 1) (record { hint = f.kept.hint; fate = fate_of d }))
AreHints-confirm hints id d a f =
    let k : Kept = record { hint = f.kept.hint; fate = fate_of d } in
    let items = confirmed_at hints id d a.numbered f in
    let two : count_by is_pending (set hints (id - 1) k) + cond {A = ℕ}
    (is_pending (get_or hints (id - 1) f.kept)) 1 0 ≡ count_by is_pending hints + cond {A = ℕ} (is_pending k) 1 0 =
    sum_by-set {X = Kept} (λ x. cond (is_pending x) 1 0) hints (id - 1) k f.kept f.inside in
    let gone : cond {A = ℕ} (is_pending k) 1 0 ≡ 0 = ap (λ b. cond {A = ℕ} b 1 0) (fate_closed d) in
    let long : length (set hints (id - 1) k) ≡ length hints = simp length-set in
    record {
      numbered = subst (HaveIdsFrom 1) items (AreNumberedFrom-confirmed 1 id hints d a.numbered);
      few = omega (arith, two, gone, a.few, length-filter is_pending hints, length-filter is_pending (set hints (id - 1) k));
      small = omega (arith, long, a.small);
    }
