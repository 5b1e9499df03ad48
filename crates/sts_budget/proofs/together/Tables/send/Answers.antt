use Rattle.std.proofs.Common.{◌≡◌, ◌<◌, ◌∙◌, length, get_or, refl, ap, subst, take, arith, rules}
use Rattle.std.proofs.Math.Seq.{take-length}
use Rattle.sts_budget.specs.declared.change.Resource.{Resource}
use Rattle.sts_budget.specs.declared.change.Resource.TheVariants.{Steps}
use Rattle.sts_budget.specs.Change.{depth_of}
use Rattle.sts_budget.specs.Ready.{names_in}
use Rattle.sts_budget.specs.Table.{IsRaisedAt, IsSent}
use Rattle.sts_budget.specs.Together.{rows_of, sums_of, over_open, most}
use Rattle.sts_budget.proofs.Rows.{sent_none}
use Rattle.sts_budget.proofs.TogetherLemmas.{as_many, sent_next}
use Rattle.sts_budget.proofs.together.Tables.send.Goals as goal

pub loop-i-init : goal.loop-i-init
loop-i-init g c = λ k. sent_none (sums_of c.args.values.now k) (λ pc. depth_of k (names_in c.args.layout.now pc)) (most k) c.args.places.now
    (rows_of c.args.self.now k)

pub entries-requires : goal.entries-requires
entries-requires g c =
    (let lt : get_or c.args.places.now c.loop-i.i 0 < length (rows_of c.args.self.now Steps) = c.requires.inside Steps c.loop-i.i 0
    c.loop-i-test.true in let e = c.requires.named Steps in omega arith)

pub raise_to-requires : goal.raise_to-requires
raise_to-requires g c =
    let to = get_or c.args.places.now c.loop-i.i 0 in
    let inside : (k : Resource) → to < length (rows_of c.loop-i.self k) = λ k.
    (let lt : to < length (rows_of c.args.self.now k) = c.requires.inside k c.loop-i.i 0 c.loop-i-test.true in
    let long : length (rows_of c.loop-i.self k) ≡ length (rows_of c.args.self.now k) = (c.loop-i.invariant k).long in
    omega arith) in
    let there : c.len.result ≡ length (names_in c.args.layout.now to) = as_many _ _ _ c.len.ensures.len c.entries.ensures in
    let few : length (names_in c.args.layout.now to) < g.row.N = c.requires.fits to in
    let low : c.len.result < g.row.N = omega arith in
    search (rules, inside, low, c.requires.small)

pub loop-i-preserved : goal.loop-i-preserved
loop-i-preserved g c = λ k.
    (let there : c.len.result ≡ length (names_in c.args.layout.now (get_or c.args.places.now c.loop-i.i 0)) =
    as_many _ _ _ c.len.ensures.len c.entries.ensures in
    let raised = subst (λ n. IsRaisedAt (sums_of c.args.values.now k) (over_open k n) (most k) (get_or c.args.places.now c.loop-i.i 0)
    (rows_of c.loop-i.self k) (rows_of c.raise_to.new.self k)) there (c.raise_to.ensures c.if-not-raise_to.false k) in
    sent_next k (sums_of c.args.values.now k) c.args.layout.now c.args.places.now c.loop-i.i (get_or c.args.places.now c.loop-i.i 0)
    (rows_of c.args.self.now k) (rows_of c.loop-i.self k) (rows_of c.raise_to.new.self k) c.loop-i-test.true refl
    (c.requires.inside k c.loop-i.i 0 c.loop-i-test.true) (c.loop-i.invariant k) raised)

pub returns : goal.returns
returns g c = λ yes k.
    (let all : c.loop-i.i ≡ length c.args.places.now = omega arith in
    subst (λ ps. IsSent (sums_of c.args.values.now k) (λ pc. depth_of k (names_in c.args.layout.now pc)) (most k) ps
    (rows_of c.args.self.now k) (rows_of c.loop-i.self k)) (ap (λ n. take n c.args.places.now) all ∙ take-length c.args.places.now)
    (c.loop-i.invariant k))
