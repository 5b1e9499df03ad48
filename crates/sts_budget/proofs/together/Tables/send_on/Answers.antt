use Rattle.std.proofs.Common.{◌≡◌, ◌+◌, ◌<◌, ◌∙◌, ℕ, length, get_or, sym, ap, subst, arith, rules}
use Rattle.sts_budget.specs.declared.change.Resource.{Resource}
use Rattle.sts_budget.specs.declared.change.Resource.TheVariants.{Steps}
use Rattle.sts_budget.specs.Change.{depth_of}
use Rattle.sts_budget.specs.Ready.{names_in}
use Rattle.sts_budget.specs.Table.{IsRaisedAt, IsSent}
use Rattle.sts_budget.specs.Together.{rows_of, sums_of, over_open, most}
use Rattle.sts_budget.proofs.Sorts.{straight}
use Rattle.sts_budget.proofs.Rows.{sent_one}
use Rattle.sts_budget.proofs.TogetherLemmas.{as_many, open_depth}
use Rattle.sts_budget.proofs.together.Tables.send_on.Goals.{Then-goes_straight_on}
use Rattle.sts_budget.proofs.together.Tables.send_on.Goals as goal

-- the next place has a row in each table
next_row : (g : _) (c : Then-goes_straight_on g) (k : Resource) → c.args.pc + 1 < length (rows_of c.args.self.now k)
next_row g c k =
    let e = straight c.args.instr c.args.pc (sym c.goes_straight_on.ensures ∙ c.if-goes_straight_on.true) in
    subst (λ ps. (i d : ℕ) → i < length ps → get_or ps i d < length (rows_of c.args.self.now k)) (sym e) (c.requires.inside k) 0 0 (omega arith)

pub entries-requires : goal.entries-requires
entries-requires g c =
    let within = next_row g (goal.at.entries-requires g c).Then-goes_straight_on Steps in
    let named = c.requires.named Steps in
    omega arith

pub raise_to-requires : goal.raise_to-requires
raise_to-requires g c =
    let inside = next_row g (goal.at.raise_to-requires g c).Then-goes_straight_on in
    let there : c.len.result ≡ length (names_in c.args.layout.now (c.args.pc + 1)) = as_many _ _ _ c.len.ensures.len c.entries.ensures in
    let few : length (names_in c.args.layout.now (c.args.pc + 1)) < g.row.N = c.requires.fits (c.args.pc + 1) in
    let low : c.len.result < g.row.N = omega arith in
    search (rules, inside, low, c.requires.small)

pub send-requires : goal.send-requires
send-requires g c =
    let places = c.as_slice.ensures.value ∙ c.next_places-places.ensures in
    let inside : (k : Resource) (i d : ℕ) → i < length c.as_slice.result.now → get_or c.as_slice.result.now i d < length
    (rows_of c.args.self.now k) = λ k. subst (λ ps. (i d : ℕ) → i < length ps → get_or ps i d < length (rows_of c.args.self.now k))
    (sym places) (c.requires.inside k) in
    search (rules, inside, c.requires.small, c.requires.named, c.requires.fits)

pub returns-then-goes_straight_on : goal.returns-then-goes_straight_on
returns-then-goes_straight_on g c = λ yes k.
    (let e = straight c.args.instr c.args.pc (sym c.goes_straight_on.ensures ∙ c.if-goes_straight_on.true) in
    let low : over_open k c.len.result ≡ depth_of k (names_in c.args.layout.now (c.args.pc + 1)) =
    ap (over_open k) (as_many _ _ _ c.len.ensures.len c.entries.ensures) ∙ open_depth k (names_in c.args.layout.now (c.args.pc + 1)) in
    let raised = subst (λ n. IsRaisedAt (sums_of c.args.values.now k) n (most k) (c.args.pc + 1) (rows_of c.args.self.now k) (rows_of c.raise_to.new.self k))
    low (c.raise_to.ensures yes k) in
    subst (λ ps. IsSent (sums_of c.args.values.now k) (λ q. depth_of k (names_in c.args.layout.now q)) (most k) ps (rows_of c.args.self.now k)
    (rows_of c.raise_to.new.self k)) e (sent_one (sums_of c.args.values.now k) (λ q. depth_of k (names_in c.args.layout.now q)) (most k) (c.args.pc + 1)
    (rows_of c.args.self.now k) (rows_of c.raise_to.new.self k) (next_row g (goal.at.returns-then-goes_straight_on g c).Then-goes_straight_on k) raised))

pub returns : goal.returns
returns g c = λ yes k. subst (λ ps. IsSent (sums_of c.args.values.now k) (λ q. depth_of k (names_in c.args.layout.now q)) (most k) ps
    (rows_of c.args.self.now k) (rows_of c.send.new.self k)) (c.as_slice.ensures.value ∙ c.next_places-places.ensures)
    (c.send.ensures yes k)
