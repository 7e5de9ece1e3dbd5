use Rattle.std.proofs.Common.{◌≡◌, ◌-◌, ◌<◌, suc, true, false, length, None, Some, Option, Bor, ℕ, slice_get, refl, sym, ap, arith, ◌∙◌}
use Rattle.std.specs.Prelude.{unwrap_or, option_map, slice_index_or, bytes_eq}
use Rattle.std.specs.Option.{option_copied}
use Rattle.std.proofs.lemmas.Option.{slice_get_read}
use Rattle.row_table.specs.declared.table.TableRow.{TableRow}
use Rattle.row_table.proofs.TableLaws.{IsSearched, search_begins, search_within, search_ends, search_finds, search_goes_on}
use Rattle.row_table.proofs.index.Index.find.Goals as goal

copied_or : (o : Option (Bor ℕ)) → unwrap_or (option_copied o) 0 ≡ unwrap_or (option_map (λ (x : Bor ℕ). x.now) o) 0
copied_or None = refl
copied_or (Some x) = refl

pub loop-next-init : goal.loop-next-init
loop-next-init c =
    let s = c.args.self.now in
    let read = c.get.ensures.lookup.4 (omega arith) 0 in
    search_begins c.args.seed c.args.rows.now s.size s.last.items s.earlier.items c.args.key.now c.unwrap_or-next.result c.requires.index
    c.requires.all (
    c.unwrap_or-next.ensures
    ∙ ap (λ (o : Option ℕ). unwrap_or o 0) c.copied.ensures
    ∙ copied_or c.get.result
    ∙ read
    ∙ (λ i. slice_index_or (c.deref.ensures.value i) (c.bucket.ensures i) 0)
    )

pub bounds-rows-place : goal.bounds-rows-place
bounds-rows-place c = omega (
  arith,
  c.loop-next-test.true,
  search_within c.args.seed c.args.self.now.size c.args.rows.now c.args.key.now c.loop-next.next c.loop-next.invariant,
)

pub index-next-requires : goal.index-next-requires
index-next-requires c = omega (
  arith,
  c.loop-next-test.true,
  c.requires.all,
  c.args.self.now.earlier.ok,
  search_within c.args.seed c.args.self.now.size c.args.rows.now c.args.key.now c.loop-next.next c.loop-next.invariant,
)

pub returns-then-eq-clause-place : goal.returns-then-eq-clause-place
returns-then-eq-clause-place c =
    let rs = c.args.rows.now in
    let place = c.loop-next.next - 1 in
    let r : TableRow = c.index-rows-place.result in
    let below : place < length rs = omega
    (arith, c.loop-next-test.true, search_within c.args.seed c.args.self.now.size rs c.args.key.now c.loop-next.next c.loop-next.invariant) in
    let one : c.loop-next.next ≡ suc place = omega (arith, c.loop-next-test.true) in
    let at : slice_get rs place ≡ Some r = slice_get_read rs (length rs) place r refl below c.index-rows-place.is in
    let key : c.as_slice.result.now ≡ r.key = c.as_slice.ensures ∙ ap (λ (x : TableRow). x.key) (sym c.index-rows-place.is) in
    let same : bytes_eq r.key c.args.key.now ≡ true = sym (c.eq.ensures ∙ ap (λ k. bytes_eq k c.args.key.now) key) ∙ c.if-eq.true in
    sym (search_finds c.args.seed c.args.self.now.size rs c.args.key.now c.loop-next.next place r c.loop-next.invariant one at same)

pub returns-then-eq-clause-within : goal.returns-then-eq-clause-within
returns-then-eq-clause-within c =
    omega (
      arith,
      c.loop-next-test.true,
      search_within c.args.seed c.args.self.now.size c.args.rows.now c.args.key.now c.loop-next.next c.loop-next.invariant,
    )

step : (c : goal.After-row_known-1) → IsSearched c.args.seed c.args.self.now.size c.args.rows.now c.args.key.now c.index-next.result.now
    × (c.index-next.result.now < c.loop-next.next)
step c =
    let s = c.args.self.now in
    let rs = c.args.rows.now in
    let place = c.loop-next.next - 1 in
    let r : TableRow = c.index-rows-place.result in
    let below : place < length rs = omega
    (arith, c.loop-next-test.true, search_within c.args.seed s.size rs c.args.key.now c.loop-next.next c.loop-next.invariant) in
    let one : c.loop-next.next ≡ suc place = omega (arith, c.loop-next-test.true) in
    let at : slice_get rs place ≡ Some r = slice_get_read rs (length rs) place r refl below c.index-rows-place.is in
    let linked : slice_get s.earlier.items place ≡ Some c.index-next.result.now = slice_get_read s.earlier.items
    (length s.earlier.items) place c.index-next.result.now refl (omega (arith, below, c.requires.all)) c.index-next.ensures in
    let key : c.as_slice.result.now ≡ r.key = c.as_slice.ensures ∙ ap (λ (x : TableRow). x.key) (sym c.index-rows-place.is) in
    let differ : bytes_eq r.key c.args.key.now ≡ false = sym (c.eq.ensures ∙ ap (λ k. bytes_eq k c.args.key.now) key) ∙ c.if-eq.false in
    search_goes_on c.args.seed rs s.size s.last.items s.earlier.items c.args.key.now c.loop-next.next c.index-next.result.now c.requires.index
    c.requires.all c.loop-next.invariant (record { place = place; row = r; one = one; at = at; differs = differ; linked = linked })

pub loop-next-smaller : goal.loop-next-smaller
loop-next-smaller c = (step c).1

pub loop-next-preserved : goal.loop-next-preserved
loop-next-preserved c = (step c).0

pub returns-clause-place : goal.returns-clause-place
returns-clause-place c =
    sym (search_ends c.args.seed c.args.self.now.size c.args.rows.now c.args.key.now c.loop-next.next c.loop-next.invariant
    (omega (arith, c.loop-next-test.false)))
