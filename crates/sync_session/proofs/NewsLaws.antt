-- Reading a leaf's text beside the own rows.
use Rattle.std.proofs.Common.{◌≡◌, inl, inr, ℕ, zero, suc, ◌+◌, ◌<◌, ◌≤◌, ◌^◌, Bool, true, false, cond, Option, Some, None, List, [], ◌∷◌, ◌++◌, ◌-◌}
use Rattle.std.proofs.Common.{length, take, drop, get_or, refl, sym, ap, subst, ◌∙◌, append_assoc, slice_get, arith}
use Rattle.std.specs.Prelude.{nat_eq, Result, Ok, Err}
use Rattle.std.specs.Int.{w16, to_be_bytes}
use Rattle.std.specs.List.{flat_map, sum_by, AllByRecursion, Contains}
use Rattle.std.specs.declared.cmp.Ordering.TheVariants.{Less}
use Rattle.std.proofs.lemmas.Bool.{eqb-true, eq-eqb}
use Rattle.std.proofs.lemmas.List.{append-nil, length-append, take-append-drop}
use Rattle.std.proofs.lemmas.List.Concat.{flat_map-append}
use Rattle.std.proofs.lemmas.List.Elements.{Contains-append_left, Contains-append_right}
use Rattle.std.proofs.lemmas.List.Sums.{sum_by-cons}
use Rattle.std.proofs.lemmas.Option.{slice_get-get_or}
use Rattle.vclock.specs.declared.format.Format.{Format}
use Rattle.vclock.specs.declared.refusal.Refusal.{Refusal}
use Rattle.vclock.specs.declared.refusal.Refusal.TheVariants as refusals
use Rattle.version_set.specs.Version.{version_text}
use Rattle.version_set.proofs.ListLaws.{all-inner, all-push, all-rest, Pairwise-filter}
use Rattle.key_ring.specs.Places.{range_at}
use Rattle.row_bytes.specs.declared.row.Row.{Row}
use Rattle.row_bytes.specs.Rows.{is_before, row_text, IsRow, KeysAscend, BeginsWithKey}
use Rattle.row_bytes.specs.Reading.{key_of, last_key}
use Rattle.row_bytes.proofs.RowLaws.{one_row}
use Rattle.row_bytes.proofs.TextLengthLaws.{row_text_len, row_short}
use Rattle.hash_tree.specs.Leaves.{Bucket, AscendByKey, IsRun, rows_in_leaf, versions_in, key_cmp}
use Rattle.hash_tree.specs.Texts.{leaf_byte, leaf_text}
use Rattle.tree_nodes.specs.Nodes.{Node, tree_depth}
use Rattle.hash_tree.proofs.KeyLaws.{all_get}
use Rattle.hash_tree.proofs.KeySpotLaws.{ascend_middle}
use Rattle.hash_tree.proofs.LeafLaws.{held_by_row}
use Rattle.snapshot.specs.RowMaps.{RowMap, IsRowMap, leaf_in}
use Rattle.sync_session.specs.Walks.{TakenText, Walk, AreSpelled}
use Rattle.sync_session.specs.Steps.{IsDue, IsTakeFault}
use Rattle.sync_session.specs.declared.news.News.{News}
use Rattle.sync_session.specs.Readings.{AreOthers, LiesIn, FrontOwn, FrontRun, end_key, OnTheWay, IsReadTo, IsReadFault, ReadsNews, Tells}
use Rattle.sync_session.proofs.ReadingLaws.{spelled_body}
use Rattle.sync_session.proofs.TextLaws.{keys_ascend}

-- ---- the last key

end_key-push : (last : List ℕ) (rows : List Row) (r : Row) → end_key last (rows ++ r ∷ []) ≡ r.key
end_key-push last [] r = refl
end_key-push last (x ∷ rows) r = end_key-push x.key rows r

ascend-push : (last : List ℕ) (rows : List Row) (r : Row) → KeysAscend last rows → is_before (end_key last rows) r.key ≡ true
    → KeysAscend last (rows ++ r ∷ [])
ascend-push last [] r a next = (next, tt)
ascend-push last (x ∷ rows) r a next = (a.0, ascend-push x.key rows r a.1 next)

ascend-next : (last : List ℕ) (rows : List Row) (r : Row) (more : List Row) → KeysAscend last (rows ++ r ∷ more)
    → is_before (end_key last rows) r.key ≡ true
ascend-next last [] r more a = a.0
ascend-next last (x ∷ rows) r more a = ascend-next x.key rows r more a.1

-- ---- one row more among the news

news_own : (own rows others : List Row) (known : ℕ) (r : Row) → AreOthers own rows others known → Contains own r
    → AreOthers own (rows ++ r ∷ []) others (known + length r.versions)
news_own own [] others known r news has = inr (has, (0, omega (arith, news.1), (news.0, refl)))
news_own own (x ∷ rows) others known r news has = elim news [
  | inl other ↦ inl (other.0, (other.1.0, other.1.1, news_own own rows other.1.0 known r other.1.2 has))
  | inr held ↦ inr (held.0, (held.1.0 + length r.versions, omega (arith, held.1.1), news_own own rows others held.1.0 r held.1.2 has))
]

news_other : (own rows others : List Row) (known : ℕ) (r : Row) → AreOthers own rows others known → (Contains own r → ⊥)
    → AreOthers own (rows ++ r ∷ []) (others ++ r ∷ []) known
news_other own [] others known r news has = inl (has, ([], ap (λ (xs : List Row). xs ++ r ∷ []) news.0, (refl, news.1)))
news_other own (x ∷ rows) others known r news has = elim news [
  | inl other ↦ inl (
    other.0,
    (other.1.0 ++ r ∷ [], ap (λ (xs : List Row). xs ++ r ∷ []) other.1.1, news_other own rows other.1.0 known r other.1.2 has),
  )
  | inr held ↦ inr (held.0, (held.1.0, held.1.1, news_other own rows others held.1.0 r held.1.2 has))
]

-- no more versions are known than there are bytes
news_short : (format : Format) (own rows others : List Row) (known : ℕ) → AreOthers own rows others known
    → known ≤ length (flat_map (row_text format) rows)
news_short format own [] others known news = omega (arith, news.1)
news_short format own (x ∷ rows) others known news = elim news [
  | inl other ↦ omega (
    arith,
    news_short format own rows other.1.0 known other.1.2,
    length-append (row_text format x) (flat_map (row_text format) rows),
  )
  | inr held ↦ omega (
    arith,
    held.1.1,
    news_short format own rows others held.1.0 held.1.2,
    row_short format x,
    length-append (row_text format x) (flat_map (row_text format) rows),
  )
]

-- ---- on the way

pub way_begins : (m : RowMap) (n : Node) (text body : List ℕ) (others : List Row) (known mark : ℕ) (format : Format) → format ≡ m.format
    → mark ≡ leaf_byte format → text ≡ mark ∷ body → others ≡ [] → known ≡ 0 → OnTheWay m n text body [] body others known
way_begins m n text body others known mark format same first is none nothing = record {
  rows = [];
  are = record { each = tt; ascending = tt };
  here = tt;
  body_is = refl;
  last_is = refl;
  news = (none, nothing);
  only = λ all spelled. (
    all,
    refl,
    (spelled_body m n text all format mark body spelled same first is).1
        ∙ ap (λ (f : Format). flat_map (row_text f) all) same,
  );
}

pub row_is_text : (format : Format) (r : Row) → 1 ≤ length (row_text format r)
row_is_text format r = omega (arith, row_text_len format r)

-- a row at the front is the next of those that spell all
next_is : (format : Format) (more : List Row) (r : Row) (rest after : List ℕ) → AllByRecursion (IsRow format) more → IsRow format r
    → rest ≡ flat_map (row_text format) more → rest ≡ row_text format r ++ after
    → (others : List Row) × (more ≡ r ∷ others) × (after ≡ flat_map (row_text format) others)
next_is format [] r rest after each is e begins =
    absurd (omega (arith, ap length (sym e ∙ begins), length-append (row_text format r) after, row_is_text format r))
next_is format (x ∷ more) r rest after each is e begins =
    let one = one_row format x r (flat_map (row_text format) more) after each.0 is (sym e ∙ begins) in
    (more, ap (λ (y : Row). y ∷ more) one.0, sym one.1)

-- one row more
way_more : (m : RowMap) (n : Node) (text body last rest : List ℕ) (others : List Row) (known : ℕ) (r : Row) (after : List ℕ) (others_now : List Row)
    (known_now : ℕ) (way : OnTheWay m n text body last rest others known)
    → IsRow m.format r → LiesIn m n.index r.key → rest ≡ row_text m.format r ++ after → is_before last r.key ≡ true
    → AreOthers m.rows (way.rows ++ r ∷ []) others_now known_now → OnTheWay m n text body r.key after others_now known_now
way_more m n text body last rest others known r after others_now known_now way is here begins next news =
    let f = row_text m.format in
    record {
      rows = way.rows ++ r ∷ [];
      are = record {
        each = all-push (IsRow m.format) way.rows r way.are.each is;
        ascending = ascend-push [] way.rows r way.are.ascending (subst (λ (k : List ℕ). is_before k r.key ≡ true) way.last_is next);
      };
      here = all-push (λ (x : Row). LiesIn m n.index x.key) way.rows r way.here here;
      body_is =
          way.body_is ∙ ap (λ (t : List ℕ). flat_map f way.rows ++ t) begins ∙ sym (append_assoc (flat_map f way.rows) (f r) after)
          ∙ ap (λ (t : List ℕ). t ++ after)
          (sym (flat_map-append f way.rows (r ∷ []) ∙ ap (λ (t : List ℕ). flat_map f way.rows ++ t) (append-nil (f r))));
      last_is = sym (end_key-push [] way.rows r);
      news = news;
      only = λ all spelled.
          let so_far = way.only all spelled in
          let each = all-rest (IsRow m.format) way.rows so_far.0 (subst (AllByRecursion (IsRow m.format)) so_far.1 spelled.are.each) in
          let more = next_is m.format so_far.0 r rest after each is so_far.2 begins in
          (more.0, so_far.1 ∙ ap (λ (xs : List Row). way.rows ++ xs) more.1 ∙ sym (append_assoc way.rows (r ∷ []) more.0), more.2);
    }

-- ---- one row more, which the own rows have, or not

-- the own rows of a leaf are of the range, and lie in the leaf
own_lies : (m : RowMap) (leaf : ℕ) (rows : List Row) (r : Row) → AllByRecursion (λ (x : Row). range_at m.bits x.key ≡ m.range) rows
    → Contains (rows_in_leaf (leaf_in m) leaf rows) r → Contains rows r × LiesIn m leaf r.key
own_lies m leaf [] r range has = absurd (omega (arith, has.1))
own_lies m leaf (x ∷ rows) r range has = by_case (λ rest. own_lies m leaf rows r range.1 rest) (nat_eq (leaf_in m x.key) leaf) refl has
  where
    later : Contains rows r × LiesIn m leaf r.key → Contains (x ∷ rows) r × LiesIn m leaf r.key
    later rest = ((suc rest.0.0, omega (arith, rest.0.1), rest.0.2), rest.1)

    by_case : (Contains (rows_in_leaf (leaf_in m) leaf rows) r → Contains rows r × LiesIn m leaf r.key) → (b : Bool)
        → nat_eq (leaf_in m x.key) leaf ≡ b → Contains (cond b (x ∷ rows_in_leaf (leaf_in m) leaf rows) (rows_in_leaf (leaf_in m) leaf rows)) r
        → Contains (x ∷ rows) r × LiesIn m leaf r.key
    by_case more true here (zero, within, is) =
        ((0, omega arith, is), subst (λ (y : Row). LiesIn m leaf y.key) is (record { range = range.0; leaf_is = eqb-true _ _ here }))
    by_case more true here (suc k, within, is) = later (more (k, omega (arith, within), is))
    by_case more false here has = later (more has)

-- an own row that lies in a leaf is one of the leaf's
own_there : (m : RowMap) (leaf : ℕ) (rows : List Row) (r : Row) → leaf_in m r.key ≡ leaf → Contains rows r
    → Contains (rows_in_leaf (leaf_in m) leaf rows) r
own_there m leaf [] r home has = absurd (omega (arith, has.1))
own_there m leaf (x ∷ rows) r home (zero, within, is) =
    let here : nat_eq (leaf_in m x.key) leaf ≡ true = eq-eqb _ _ (ap (λ (y : Row). leaf_in m y.key) is ∙ home) in
    rw here (0, omega arith, is)
own_there m leaf (x ∷ rows) r home (suc k, within, is) =
    let rest = own_there m leaf rows r home (k, omega (arith, within), is) in
    elim (nat_eq (leaf_in m x.key) leaf) as
    (λ b. Contains (cond b (x ∷ rows_in_leaf (leaf_in m) leaf rows) (rows_in_leaf (leaf_in m) leaf rows)) r) [
      | true ↦
          (suc rest.0, omega (arith, rest.1), rest.2)
      | false ↦ rest
    ]

-- a row of the own leaf
pub way_own : (m : RowMap) (n : Node) (text body last rest : List ℕ) (others : List Row) (known : ℕ) (r : Row) (after : List ℕ) → IsRowMap m
    → OnTheWay m n text body last rest others known → Contains (rows_in_leaf (leaf_in m) n.index m.rows) r
    → rest ≡ row_text m.format r ++ after → is_before last r.key ≡ true → OnTheWay m n text body r.key after others (known + length r.versions)
way_own m n text body last rest others known r after is way has begins next =
    let own = own_lies m n.index m.rows r is.here has in
    let row : IsRow m.format r = subst (IsRow m.format) own.0.2 (all_get (IsRow m.format) m.rows own.0.0 r is.each own.0.1) in
    way_more m n text body last rest others known r after others (known + length r.versions) way row own.1 begins next
    (news_own m.rows way.rows others known r way.news own.0)

-- ---- a run of the own leaf's rows

-- the rows of a leaf ascend
pub leaf_ascends : (m : RowMap) (leaf : ℕ) → IsRowMap m → AscendByKey (rows_in_leaf (leaf_in m) leaf m.rows)
leaf_ascends m leaf is = Pairwise-filter (λ (r x : Row). key_cmp r.key x.key ≡ Less) _ m.rows is.ascending

run_short : (format : Format) (rows : List Row) → sum_by (λ (r : Row). length r.versions) rows ≤ length (flat_map (row_text format) rows)
run_short format [] = omega arith
run_short format (r ∷ rows) =
    omega (
      arith,
      run_short format rows,
      sum_by-cons (λ (x : Row). length x.versions) r rows,
      row_short format r,
      length-append (row_text format r) (flat_map (row_text format) rows),
    )

-- a run has no more versions than a text that begins with it has bytes
pub run_within : (format : Format) (run : List Row) (own text after : List ℕ) → own ≡ flat_map (row_text format) run → text ≡ own ++ after
    → sum_by (λ (r : Row). length r.versions) run ≤ length text
run_within format run own text after is begins = omega (arith, run_short format run, ap length is, ap length begins, length-append own after)

-- the last key of a run
end_at : (last : List ℕ) (rows : List Row) (i : ℕ) (d : Row) → length rows ≡ suc i → (get_or rows i d).key ≡ end_key last rows
end_at last [] i d e = absurd (omega (arith, e))
end_at last (r ∷ []) zero d e = refl
end_at last (r ∷ []) (suc i) d e = absurd (omega (arith, e))
end_at last (r ∷ x ∷ rows) zero d e = absurd (omega (arith, e))
end_at last (r ∷ x ∷ rows) (suc i) d e = end_at r.key (x ∷ rows) i d (omega (arith, e))

end_is : (last : List ℕ) (run : List Row) (d : Row) → 1 ≤ length run → last_key run ≡ end_key last run
unfolding last_key
end_is last run d some =
    ap key_of (slice_get-get_or run (length run - 1) d (omega (arith, some))) ∙ end_at last run (length run - 1) d (omega (arith, some))

-- the last row of a run has its last key
pub last_of : (run : List Row) (r : Row) → Some r ≡ slice_get run (length run - 1) → r.key ≡ last_key run
unfolding last_key
last_of run r is = ap key_of is

run_contained : (front run back : List Row) → AllByRecursion (Contains (front ++ run ++ back)) run
run_contained front [] back = tt
run_contained front (r ∷ run) back = (
  Contains-append_left (front ++ r ∷ run) back r (Contains-append_right front (r ∷ run) r (0, omega arith, refl)),
  subst (λ (rows : List Row). AllByRecursion (Contains (rows ++ back)) run) (append_assoc front (r ∷ []) run)
      (run_contained (front ++ r ∷ []) run back),
)

way_run : (m : RowMap) (n : Node) (text body last rest : List ℕ) (others : List Row) (known : ℕ) (run : List Row) (after : List ℕ) → IsRowMap m
    → OnTheWay m n text body last rest others known → AllByRecursion (Contains (rows_in_leaf (leaf_in m) n.index m.rows)) run
    → KeysAscend last run → rest ≡ flat_map (row_text m.format) run ++ after
    → OnTheWay m n text body (end_key last run) after others (known + sum_by (λ (r : Row). length r.versions) run)
way_run m n text body last rest others known [] after is way all rising begins =
    let same : known ≡ known + 0 = omega arith in
    subst (λ (p : List ℕ × ℕ). OnTheWay m n text body last p.0 others p.1) (λ i. (begins i, same i)) way
way_run m n text body last rest others known (r ∷ run) after is way all rising begins =
    let behind = flat_map (row_text m.format) run ++ after in
    let step = way_own m n text body last rest others known r behind is way all.0
    (begins ∙ append_assoc (row_text m.format r) (flat_map (row_text m.format) run) after) rising.0 in
    let done = way_run m n text body r.key behind others (known + length r.versions) run after is step all.1 rising.1 refl in
    subst (OnTheWay m n text body (end_key r.key run) after others) (omega (arith, sum_by-cons (λ (x : Row). length x.versions) r run)) done

-- the run that a text begins with
pub way_front : (m : RowMap) (n : Node) (b : Bucket) (text body last rest : List ℕ) (others : List Row) (known : ℕ) (key : List ℕ) (versions : ℕ)
    (end after : List ℕ) → IsRowMap m → b ≡ record { format = m.format; rows = rows_in_leaf (leaf_in m) n.index m.rows }
    → OnTheWay m n text body last rest others known → FrontRun b key rest versions end after → is_before last key ≡ true
    → OnTheWay m n text body end after others (known + versions)
way_front m n b text body last rest others known key versions end after is same way there next =
    let front = subst (λ (x : Bucket). FrontRun x key rest versions end after) same there in
    let run = front.run in
    let leaf = rows_in_leaf (leaf_in m) n.index m.rows in
    let all : AllByRecursion (Contains leaf) run = subst (λ (rows : List Row). AllByRecursion (Contains rows) run) (sym front.is.rows_are)
    (run_contained front.is.front run front.is.back) in
    let ascends : AscendByKey (front.is.first ∷ front.is.more) = subst AscendByKey front.is.run_is
    (ascend_middle front.is.front run front.is.back (subst AscendByKey front.is.rows_are (leaf_ascends m n.index is))) in
    let first : is_before last front.is.first.key ≡ true = ap (is_before last) front.is.key ∙ next in
    let rising : KeysAscend last run = subst (KeysAscend last) (sym front.is.run_is)
    (first, keys_ascend front.is.first.key front.is.more ascends.0 ascends.1) in
    let done = way_run m n text body last rest others known run after is way all rising front.text_is in
    let ends : end_key last run ≡ end = sym (front.last_is ∙ end_is last run front.is.first (omega (arith, ap length front.is.run_is))) in
    subst (λ (p : List ℕ × ℕ). OnTheWay m n text body p.0 after others (known + p.1)) (λ i. (ends i, sym front.versions_is i)) done

-- no more versions are known than the body has bytes
pub way_known : (m : RowMap) (n : Node) (text body last rest : List ℕ) (others : List Row) (known : ℕ) → OnTheWay m n text body last rest others known
    → known ≤ length body
way_known m n text body last rest others known way =
    let f = row_text m.format in
    omega (arith, ap length way.body_is, length-append (flat_map f way.rows) rest, news_short m.format m.rows way.rows others known way.news)

-- a run is some bytes
pub run_is_text : (b : Bucket) (key text : List ℕ) (versions : ℕ) (last after : List ℕ) → FrontRun b key text versions last after
    → length after < length text
run_is_text b key text versions last after front =
    let f = row_text b.format in
    omega (
      arith,
      ap length (front.text_is ∙ ap (λ (rs : List Row). flat_map f rs ++ after) front.is.run_is),
      length-append (flat_map f (front.is.first ∷ front.is.more)) after,
      length-append (f front.is.first) (flat_map f front.is.more),
      row_is_text b.format front.is.first,
    )

-- ---- a row that was read

-- a row that was read, which the own leaf has not
pub way_other : (m : RowMap) (n : Node) (text body last rest : List ℕ) (others : List Row) (known : ℕ) (r : Row) (after : List ℕ)
    → OnTheWay m n text body last rest others known → IsRow m.format r → LiesIn m n.index r.key
    → (Contains (rows_in_leaf (leaf_in m) n.index m.rows) r → ⊥) → rest ≡ row_text m.format r ++ after → is_before last r.key ≡ true
    → OnTheWay m n text body r.key after (others ++ r ∷ []) known
way_other m n text body last rest others known r after way row lies has begins next =
    way_more m n text body last rest others known r after (others ++ r ∷ []) known way row lies begins next
    (news_other m.rows way.rows others known r way.news (λ own. has (own_there m n.index m.rows r lies.leaf_is own)))

-- ---- the own row of a key

-- rows that ascend have one row of a key
one_of_key : (rows : List Row) (r s : Row) → AscendByKey rows → Contains rows r → Contains rows s → r.key ≡ s.key → r ≡ s
one_of_key rows r s a p q same =
    let versions : r.versions ≡ s.versions = sym (held_by_row rows r a p) ∙ ap (λ (k : List ℕ). versions_in k rows) same ∙ held_by_row rows s a q in
    λ i. record { key = same i; versions = versions i }

-- a text that does not begin with the text of the row of a key begins with that of no row of the key
pub front_differs : (b : Bucket) (key text : List ℕ) (first : Row) → AscendByKey b.rows → Contains b.rows first → first.key ≡ key
    → ((rest : List ℕ) → text ≡ row_text b.format first ++ rest → ⊥) → FrontOwn b key text None
front_differs b key text first a has is off r rest other same begins =
    off rest (begins ∙ ap (λ (x : Row). row_text b.format x ++ rest) (one_of_key b.rows r first a other has (same ∙ sym is)))

-- ---- rows of a run

-- the first row of a run is one of the rows
pub first_there : (rows : List Row) (k : List ℕ) (run : List Row) (is : IsRun rows k run) → Contains rows is.first
first_there rows k run is =
    let all : AllByRecursion (Contains rows) run = subst (λ (rs : List Row). AllByRecursion (Contains rs) run) (sym is.rows_are)
    (run_contained is.front run is.back) in
    (subst (AllByRecursion (Contains rows)) is.run_is all).0

-- the first rows of a run are a run
pub run_front : (rows : List Row) (k : List ℕ) (run : List Row) (n : ℕ) → IsRun rows k run → 1 ≤ n → IsRun rows k (take n run)
run_front rows k run zero is some = absurd (omega (arith, some))
run_front rows k run (suc n) is some =
    let first = take (suc n) run in
    let others = drop (suc n) run in
    record {
      front = is.front;
      first = is.first;
      more = take n is.more;
      back = others ++ is.back;
      rows_are =
          is.rows_are
          ∙ ap (λ (x : List Row). is.front ++ x ++ is.back) (sym (take-append-drop (suc n) run))
          ∙ ap (λ (x : List Row). x ++ is.back) (sym (append_assoc is.front first others))
          ∙ append_assoc (is.front ++ first) others is.back;
      run_is = ap (take (suc n)) is.run_is;
      key = is.key;
    }

-- ---- at the end, or where no rows spell the text

split_here : (m : RowMap) (leaf : ℕ) (rows : List Row) → AllByRecursion (λ (r : Row). LiesIn m leaf r.key) rows
    → AllByRecursion (λ (r : Row). range_at m.bits r.key ≡ m.range) rows × AllByRecursion (λ (r : Row). leaf_in m r.key ≡ leaf) rows
split_here m leaf [] all = (tt, tt)
split_here m leaf (r ∷ rows) all = let rest = split_here m leaf rows all.1 in ((all.0.range, rest.0), (all.0.leaf_is, rest.1))

pub way_done : (m : RowMap) (n : Node) (text body last rest : List ℕ) (others : List Row) (known mark : ℕ) (format : Format)
    → OnTheWay m n text body last rest others known → rest ≡ [] → format ≡ m.format → mark ≡ leaf_byte format → text ≡ mark ∷ body
    → (rows : List Row) × AreSpelled m n text rows × AreOthers m.rows rows others known
unfolding leaf_text
way_done m n text body last rest others known mark format way none same first is =
    let f = row_text m.format in
    let whole : body ≡ flat_map f way.rows = way.body_is ∙ ap (λ (t : List ℕ). flat_map f way.rows ++ t) none ∙ append-nil (flat_map f way.rows) in
    let place = split_here m n.index way.rows way.here in (
      way.rows,
      record {
        text_is = is ∙ (λ i. (first ∙ ap leaf_byte same) i ∷ whole i);
        are = way.are;
        range = place.0;
        leaf = place.1;
      },
      way.news,
    )

-- the row that is next in rows that spell the text
pub record IsNext (m : RowMap) (n : Node) (last rest : List ℕ) : Type 0 where
  pub row : Row
  pub after : List ℕ
  pub is : IsRow m.format row
  pub lies : LiesIn m n.index row.key
  pub begins : rest ≡ row_text m.format row ++ after
  pub next : is_before last row.key ≡ true

pub next_of : (m : RowMap) (n : Node) (text body last rest : List ℕ) (others : List Row) (known : ℕ) (all : List Row)
    → OnTheWay m n text body last rest others known → AreSpelled m n text all → 0 < length rest → IsNext m n last rest
next_of m n text body last rest others known all way spelled some =
    let so_far = way.only all spelled in
    by_more so_far.0 so_far.1 so_far.2
  where
    by_more : (more : List Row) → all ≡ way.rows ++ more → rest ≡ flat_map (row_text m.format) more → IsNext m n last rest
    by_more [] are e = absurd (omega (arith, some, ap length e))
    by_more (r ∷ more) are e = record {
      row = r;
      after = flat_map (row_text m.format) more;
      is = all-inner (IsRow m.format) way.rows r more (subst (AllByRecursion (IsRow m.format)) are spelled.are.each);
      lies = record {
        range = all-inner (λ (x : Row). range_at m.bits x.key ≡ m.range) way.rows r more
            (subst (AllByRecursion (λ (x : Row). range_at m.bits x.key ≡ m.range)) are spelled.range);
        leaf_is = all-inner (λ (x : Row). leaf_in m x.key ≡ n.index) way.rows r more
            (subst (AllByRecursion (λ (x : Row). leaf_in m x.key ≡ n.index)) are spelled.leaf);
      };
      begins = e;
      next = subst (λ (k : List ℕ). is_before k r.key ≡ true) (sym way.last_is)
          (ascend-next [] way.rows r more (subst (KeysAscend []) are spelled.are.ascending));
    }

-- a row's text begins with its key
pub begins_with_key : (format : Format) (r : Row) (text after : List ℕ) → IsRow format r → text ≡ row_text format r ++ after
    → BeginsWithKey text r.key (to_be_bytes w16 (length r.versions) ++ flat_map (version_text format) r.versions ++ after)
unfolding row_text
begins_with_key format r text after is begins = record { fits = is.key; text_is = begins ∙ simp append_assoc }

-- a key that is found is the one
pub found_key : (a b : List ℕ) → Some a ≡ Some b → a ≡ b
found_key a b e = ap bytes_of e
  where
    bytes_of : Option (List ℕ) → List ℕ
    bytes_of None = []
    bytes_of (Some bytes) = bytes

-- ---- read up to a place

-- the same text, read further
pub read_on : {m : RowMap} {n : Node} {text last rest : List ℕ} {others : List Row} {known : ℕ} (read : IsReadTo m n text last rest others known)
    (end after : List ℕ) (more : List Row) (count : ℕ) → OnTheWay m n text read.body end after more count → IsReadTo m n text end after more count
read_on read end after more count way = record { body = read.body; short = read.short; text_is = read.text_is; way = way }

-- so many versions are known at most
pub read_known : {m : RowMap} {n : Node} {text last rest : List ℕ} {others : List Row} {known : ℕ} → IsReadTo m n text last rest others known
    → known < 2 ^ 64
read_known {m = m} {n = n} {text = text} {last = last} {rest = rest} {others = others} {known = known} read =
    omega (arith, way_known m n text read.body last rest others known read.way, read.short)

-- the row that is next
pub read_next : {m : RowMap} {n : Node} {text last rest : List ℕ} {others : List Row} {known : ℕ} → IsReadTo m n text last rest others known
    → (all : List Row) → AreSpelled m n text all → 0 < length rest → IsNext m n last rest
read_next {m = m} {n = n} {text = text} {last = last} {rest = rest} {others = others} {known = known} read all spelled some =
    next_of m n text read.body last rest others known all read.way spelled some

-- at the end
pub read_done : {m : RowMap} {n : Node} {text last rest : List ℕ} {others : List Row} {known : ℕ} → IsReadTo m n text last rest others known
    → rest ≡ [] → (rows : List Row) × AreSpelled m n text rows × AreOthers m.rows rows others known
read_done {m = m} {n = n} {text = text} {last = last} {rest = rest} {others = others} {known = known} read none =
    way_done m n text read.body last rest others known (leaf_byte m.format) m.format read.way none refl refl read.text_is

-- the fault of a step is that of the whole
pub read_fault : (m : RowMap) (n : Node) (text : List ℕ) (e : Refusal) → IsReadFault m n text e → ReadsNews m n text (Err e)
read_fault m n text refusals.NotCanonical fault = fault
read_fault m n text e fault = fault

-- the news of a leaf's text that is due
pub leaf_shown : (w : Walk) (t : TakenText) (result : Result News Refusal) → IsDue w t → t.node.depth ≡ tree_depth w.own.format
    → ReadsNews w.own t.node t.text result → Tells w t result
leaf_shown w t (Ok news) due deep shown = (due, inr (deep, (shown.0, shown.1, shown.2)))
leaf_shown w t (Err refusals.NotCanonical) due deep shown = (
  due,
  λ can. elim can [
    | inl inner ↦ omega (arith, inner.0, deep)
    | inr leaf ↦ shown leaf.1.0 leaf.1.1
  ],
)
leaf_shown w t (Err e) due deep shown = subst (IsTakeFault w t) (sym shown) (due, λ less. absurd (omega (arith, less, deep)))
