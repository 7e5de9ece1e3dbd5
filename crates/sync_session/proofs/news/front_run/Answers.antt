use Rattle.std.proofs.Common.{◌≡◌, ◌++◌, ◌-◌, ◌<◌, ◌≤◌, ◌∙◌, ℕ, zero, suc, inl, inr, List, [], ◌∷◌, None, Some, slice_get, length, take, refl, sym}
use Rattle.std.proofs.Common.{ap, subst, arith}
use Rattle.std.proofs.lemmas.Bool.{cases_lt}
use Rattle.std.proofs.lemmas.Option.{slice_get_within}
use Rattle.std.proofs.lemmas.List.{length-take-le}
use Rattle.std.specs.List.{flat_map}
use Rattle.row_bytes.specs.declared.row.Row.{Row}
use Rattle.row_bytes.specs.Rows.{row_text}
use Rattle.row_bytes.specs.Strips.{StripsRows}
use Rattle.hash_tree.specs.Leaves.{IsRun}
use Rattle.sync_session.proofs.NewsLaws.{run_within, last_of, front_differs, first_there, run_front}
use Rattle.sync_session.proofs.news.front_run.Goals as goal

pub returns-in_err-rows : goal.returns-in_err-rows
returns-in_err-rows c = rw c.from_residual.ensures (λ r rest has same begins. c.in_err-rows.ensures.found r has same)

-- if no row was stripped, the text does not begin with the first one
not_first : (format : _) (rows run : List Row) (key text : List ℕ) (count : ℕ) (after rest : List ℕ) (is : IsRun rows key run)
    → StripsRows format run text count after → count ≡ 0 → text ≡ row_text format is.first ++ rest → ⊥
not_first format rows run key text count after rest is strips none begins =
    let none_is : text ≡ after = strips.text_is ∙ ap (λ (n : ℕ). flat_map (row_text format) (take n run) ++ after) none in
    let at : slice_get run count ≡ Some is.first = ap (slice_get run) none ∙ ap (λ (rs : List Row). slice_get rs 0) is.run_is in
    strips.most is.first rest at (sym none_is ∙ begins)

-- rows without a last one are none
no_last : (rows : List Row) → None ≡ slice_get rows (length rows - 1) → length rows ≡ 0
no_last rows none = elim (cases_lt 0 (length rows)) [
  | inl some ↦ absurd (missing rows (length rows - 1) (omega (arith, some)) none)
  | inr less ↦ omega (arith, less)
]
  where
    missing : (rows : List Row) (i : ℕ) → i < length rows → None ≡ slice_get rows i → ⊥
    missing [] i within none = omega (arith, within)
    missing (r ∷ rows) zero within none = cc
    missing (r ∷ rows) (suc i) within none = missing rows i (omega (arith, within)) none

pub returns-in_err-last : goal.returns-in_err-last
returns-in_err-last c =
    let leaf = c.args.leaf.now in
    let key = c.args.key.now in
    let rows = c.in_ok-rows.rows.now in
    let run = c.in_ok-rows.ensures.found in
    let count = c.strip_rows-count.result.0 in
    let strips : StripsRows leaf.format rows c.args.text.now count c.strip_rows-count.result.1.now = rw c.format.ensures at
    c.strip_rows-count.ensures in
    let none : count ≡ 0 =
    omega (
      arith,
      no_last c.split_at.result.0.now c.in_err-last.ensures.value,
      ap length c.split_at.ensures.front,
      length-take-le count rows strips.within,
    ) in
    rw c.from_residual-in_err-last.ensures
    (front_differs leaf key c.args.text.now run.first c.requires (first_there leaf.rows key rows run) run.key
    (λ rest. not_first leaf.format leaf.rows rows key c.args.text.now count c.strip_rows-count.result.1.now rest run strips none))

pub version_count-requires : goal.version_count-requires
version_count-requires c =
    let format = c.args.leaf.now.format in
    let same = c.split_at.result.0.now in
    let strips : StripsRows format c.in_ok-rows.rows.now c.args.text.now c.strip_rows-count.result.0 c.strip_rows-count.result.1.now = rw
    c.format.ensures at c.strip_rows-count.ensures in
    let begins = strips.text_is
    ∙ ap (λ (rs : List Row). flat_map (row_text format) rs ++ c.strip_rows-count.result.1.now) (sym c.split_at.ensures.front) in
    omega (arith, run_within format same (flat_map (row_text format) same) c.args.text.now c.strip_rows-count.result.1.now refl begins)

pub returns : goal.returns
returns c =
    let leaf = c.args.leaf.now in
    let rows = c.in_ok-rows.rows.now in
    let count = c.strip_rows-count.result.0 in
    let after = c.strip_rows-count.result.1.now in
    let same = c.split_at.result.0.now in
    let strips : StripsRows leaf.format rows c.args.text.now count after = rw c.format.ensures at c.strip_rows-count.ensures in
    let last : Some c.in_ok-last.last.now ≡ slice_get same (length same - 1) = c.in_ok-last.ensures.value in
    let some : 1 ≤ count = omega (
      arith,
      slice_get_within same (length same - 1) c.in_ok-last.last.now (sym last),
      ap length c.split_at.ensures.front,
      length-take-le count rows strips.within,
    ) in
    record {
      run = same;
      is = subst (IsRun leaf.rows c.args.key.now) (sym c.split_at.ensures.front)
          (run_front leaf.rows c.args.key.now rows count c.in_ok-rows.ensures.found some);
      versions_is = c.version_count.ensures;
      last_is = c.as_slice.ensures ∙ last_of same c.in_ok-last.last.now last;
      text_is = strips.text_is ∙ ap (λ (rs : List Row). flat_map (row_text leaf.format) rs ++ after) (sym c.split_at.ensures.front);
    }
