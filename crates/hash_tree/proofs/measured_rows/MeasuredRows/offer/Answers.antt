use Rattle.std.proofs.Common.{rules, None, Some, refl, inl, inr, ◌≡◌, ◌+◌, ◌<◌, ◌^◌, ◌∙◌, List, set, sym, ap, arith}
use Rattle.std.proofs.lemmas.List.{set-get_or}
use Rattle.std.proofs.lemmas.Result.{err_from_is_err_and}
use Rattle.vclock.specs.Outcome.{gives}
use Rattle.version_set.specs.Version.{offered}
use Rattle.row_bytes.specs.declared.row.Row.{Row}
use Rattle.hash_tree.specs.Leaves.{Bucket}
use Rattle.hash_tree.specs.Chunks.{offered_at}
use Rattle.hash_tree.proofs.ChunkLaws.{IsOffered, is_offered, within-inside, value-inside, versions-inside, offered_at-set}
use Rattle.hash_tree.proofs.measured_rows.MeasuredRows.offer.Goals as goal
use Rattle.hash_tree.proofs.measured_rows.MeasuredRows.offer.Goals.{After-row_len}

-- the row before and after the offer
facts : (c : After-row_len) → IsOffered c.self.inside.format c.self.inside.rows.items c.self.inside.text_len c.args.at c.index_mut-row.result.now
    (record { key = c.index_mut-row.result.now.key; versions = offered c.args.version c.index_mut-row.result.now.versions }) c.args.version
facts c =
    let s = c.self.inside in
    is_offered s.format s.rows.items s.text_len c.args.at c.index_mut-row.result.now c.args.version c.self.invariant
    (within-inside c.args.self.now s.format s.rows.items c.args.at c.self.view_is c.requires.at) c.index_mut-row.ensures.value
    (value-inside c.args.self.now s.format s.rows.items c.args.version c.self.view_is c.requires.value)

pub overflow_sub-others : goal.overflow_sub-others
overflow_sub-others c = omega (arith, c.row_len.ensures.exact, (facts (goal.at.overflow_sub-others c).After-row_len).within)

pub returns-in_err-offer : goal.returns-in_err-offer
returns-in_err-offer c =
    let s = c.self.inside in
    let versions = versions-inside c.args.self.now s.format s.rows.items c.args.at c.index_mut-row.result.now c.self.view_is c.requires.at
    c.index_mut-row.ensures.value in
    let none = rw (← versions) at c.requires.room in
    let p = err_from_is_err_and c.from_residual.result c.from_residual.ensures.1 in
    let old = c.index_mut-row.result.now in
    let same : set s.rows.items c.args.at (record { key = old.key; versions = c.offer.new.self }) ≡ s.rows.items =
    ap (λ (vs : _). set s.rows.items c.args.at (record { key = old.key; versions = vs })) c.in_err-offer.ensures.err
    ∙ ap (set s.rows.items c.args.at) c.index_mut-row.ensures.value ∙ set-get_or s.rows.items c.args.at old in
    rw (p.1, p.2) (
      ap (λ (rs : List Row). record { format = s.format; rows = rs }) same
          ∙ c.self.view_is,
      elim c.in_err-offer.ensures.answers [
        | inl n ↦ inl (n.1, refl)
        | inr e ↦ absurd
            (let no : None ≡ Some _ = sym none ∙ e in cc)
      ],
    )

pub row_len-requires-2 : goal.row_len-requires-2
row_len-requires-2 c = rw c.in_ok-offer.ensures.set (facts (goal.at.row_len-requires-2 c).After-row_len).fits

pub overflow_add-self : goal.overflow_add-self
overflow_add-self c =
    let s = c.self.inside in
    let is = facts (goal.at.overflow_add-self c).After-row_len in
    let room : s.text_len + c.version_len-more.result < 2 ^ 64 = search rules in
    let now = rw c.in_ok-offer.ensures.set at c.row_len-2.ensures.exact in
    omega (arith, room, c.row_len.ensures.exact, now, is.within, is.grows, c.version_len-more.ensures.exact)

pub invariant_of-self-2 : goal.invariant_of-self-2
invariant_of-self-2 c =
    let is = facts (goal.at.invariant_of-self-2 c).After-row_len in
    rw (c.row_len.ensures.exact, c.row_len-2.ensures.exact, c.in_ok-offer.ensures.set) is.keeps

pub returns : goal.returns
returns c =
    let s = c.self.inside in
    let at = c.args.at in
    let old = c.index_mut-row.result.now in
    let within = within-inside c.args.self.now s.format s.rows.items at c.self.view_is c.requires.at in
    let rows : set s.rows.items at (record { key = old.key; versions = c.offer.new.self }) ≡ offered_at s.rows.items at c.args.version =
    ap (λ (vs : _). set s.rows.items at (record { key = old.key; versions = vs })) c.in_ok-offer.ensures.set
    ∙ ap (λ (x : Row). set s.rows.items at (record { key = x.key; versions = offered c.args.version x.versions })) c.index_mut-row.ensures.value
    ∙ sym (offered_at-set s.rows.items at c.args.version old within) in
    ap (λ (b : Bucket). gives tt b)
    (sym (ap (λ (rs : List Row). record { format = s.format; rows = rs }) rows
    ∙ ap (λ (b : Bucket). record { format = b.format; rows = offered_at b.rows at c.args.version }) c.self.view_is))
