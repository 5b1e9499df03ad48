-- A scope is opened: the view after it, and the facts that keep the parts in order.
use Rattle.std.proofs.Common.{◌≡◌, ◌≢◌, ◌-◌, ℕ, List, [], ◌∷◌, ◌++◌, length, Bool, true, false, Some, None, refl, sym, ◌∙◌, ap, get_or, set, arith, cond, nat_eq}
use Rattle.std.proofs.lemmas.Bool.Decides.{nat_tests}
use Rattle.std.proofs.lemmas.List.{length-map, map-set, map-append, length-set}
use Rattle.std.proofs.lemmas.List.Sums.{sum_by-cons}
use Rattle.std.specs.Prelude.{option_map, slice_set, count_by}
use Rattle.std.proofs.lemmas.Option.{same_Some}
use Rattle.sts_env.specs.Environments.{list_of}
use Rattle.sts_code.specs.declared.instr.Joiner.{Joiner}
use Rattle.sts_env.specs.declared.env.Env.{Env}
use Rattle.sts_tree.specs.Forest.{Forest, opened}
use Rattle.sts_tree.specs.declared.record.ScopeNode.{ScopeNode}
use Rattle.sts_tree.proofs.HoldingLemmas.{map_at, inside_of}
use Rattle.sts_model.specs.Local.{steps}
use Rattle.sts_model.specs.Misuse.{is_binding}
use Rattle.sts_model.specs.Told.{told}
use Rattle.sts_model.specs.Live.{Live, Alive}
use Rattle.sts_model.specs.declared.event.Phase.TheVariants.{Opened}
use Rattle.sts_model.specs.declared.record.Bound.{Bound}
use Rattle.sts_model.specs.declared.record.Entry.{Entry}
use Rattle.sts_model.specs.declared.record.Entry.TheVariants as entry
use Rattle.sts_model.specs.declared.record.Frame.{Frame}
use Rattle.sts_model.specs.declared.record.Slot.TheVariants.{Own}
use Rattle.laws_live.specs.Effect.{live_open}
use Rattle.laws_live.specs.Reading.{alive_at, with_live_frame}
use Rattle.laws_live.specs.Order.{InOrder}
use Rattle.sts_store.proofs.ViewingLemmas.{words}
use Rattle.sts_store.specs.View.{scope_seen}
use Rattle.sts_store.specs.declared.running.Running.{Running}
use Rattle.sts_store.specs.Parts.{Parts, live_of, beside, frame_of}
use Rattle.sts_store.specs.Sharing.{AreShared, Holder, holder_of, keeper_of, holders, keepers, homes, home_at, behind}
use Rattle.sts_store.specs.Stored.{IsStore}
use Rattle.sts_store.proofs.Views.{Lived, alive_of, same_frame, frame_seen, with_running}
use Rattle.sts_store.proofs.Keeping.{still_some}
use Rattle.sts_store.proofs.Housed.{home_seen}
use Rattle.sts_store.proofs.Seeing.{scope_stands}
use Rattle.sts_store.proofs.Opening.{open_shares}
use Rattle.sts_store.proofs.Shared.{instead}

-- a living task, by the record in its slot
abbrev pub with_run : (m : Parts) (t : ℕ) (r : Running) → Lived m t → get_or m.frames.slots t None ≡ Some r → Lived m t
with_run m t r l at =
    let same : l.run ≡ r = same_Some l.run r (sym l.runs ∙ at) in
    record l {
      run = r;
      runs = at;
      seen = l.seen ∙ ap (λ q. Some (record { scope = l.task.scope; state = l.task.state; alive = Some (alive_of m.chains l.task.flag q) })) same;
      at = l.at ∙ ap (alive_of m.chains l.task.flag) same;
    }

-- the frame after a scope was opened
abbrev pub entered : Frame → ℕ → ℕ → Frame
entered f x s = record (steps f 0 []) { entries = entry.Scope s ∷ f.entries; slots = slice_set f.slots x (Own s) }

-- the tree with a scope more
abbrev pub with_opened : Forest Env → ScopeNode Env → List ℕ → ℕ → Forest Env
with_opened f c keys room = record f { scopes = f.scopes ++ Some c ∷ []; scope_keys = keys; scope_room = room }

-- the parts with a scope more, and its opener's frame
abbrev pub with_scope_more : Parts → ℕ → Running → Frame → ScopeNode Env → List ℕ → ℕ → Parts
with_scope_more m t r f c keys room = with_running (record m { tree = with_opened m.tree c keys room }) t (record r { frame = f }) m.chains

-- ---- what is seen

-- the view with a scope more, and another frame
abbrev opens : Live → ℕ → Frame → ℕ → List Bound → ℕ → Joiner → Bool → Live
opens v t f x environment s joiner timed =
    with_live_frame
    (record v {
      scopes = v.scopes ++ Some (record { owner = t; joiner = joiner; timed = timed; phase = Opened; cancelled = false; expired = false; environment = environment; told = told joiner [] }) ∷ [];
    })
    t (entered f x s)

opens_is : (v : Live) (t : ℕ) (f : Frame) (x : ℕ) (joiner : Joiner) (timed : Bool) → live_open v t f x joiner timed ≡ opens v t f x (alive_at v t).environment (length v.scopes) joiner timed
unfolding live_open
opens_is v t f x joiner timed = refl

pub open_live : (m : Parts) (t x : ℕ) (joiner : Joiner) (timed : Bool) (keys : List ℕ) (room : ℕ) (l : Lived m t) → live_of (with_scope_more m t l.run (entered l.run.frame x (length m.tree.scopes)) (opened t joiner timed l.run.env) keys room) ≡ live_open (live_of m) t (frame_of m t) x joiner timed
open_live m t x joiner timed keys room l =
    frame_seen (record m { tree = with_opened m.tree (opened t joiner timed l.run.env) keys room }) t l.run (record l.run { frame = entered l.run.frame x n }) (λ alive. record alive { frame = entered l.run.frame x n }) l.runs (λ flag. refl)
    ∙ ap (λ v. with_live_frame v t (entered l.run.frame x n)) (words.open_is (beside m) m.tree t joiner timed l.run.env keys room)
    ∙ sym (opens_is (live_of m) t (frame_of m t) x joiner timed
    ∙ ap (λ f. opens (live_of m) t f x (alive_at (live_of m) t).environment (length (live_of m).scopes) joiner timed) (same_frame m t l.run l l.runs)
    ∙ ap (λ (a : Alive). opens (live_of m) t l.run.frame x a.environment (length (live_of m).scopes) joiner timed) l.at
    ∙ ap (λ s. opens (live_of m) t l.run.frame x (list_of m.chains l.run.env) s joiner timed) (length-map m.tree.scopes (option_map (scope_seen (beside m)))))
  where
    n : ℕ
    n = length m.tree.scopes

-- ---- sharing

behind_here : (s : ℕ) (es : List Entry) → behind s (entry.Scope s ∷ es) ≡ es
behind_here s es = let same : nat_eq s s ≡ true = grind (arith, nat_tests) in rw same refl

pub behind_there : (s r : ℕ) (es : List Entry) → r ≢ s → behind r (entry.Scope s ∷ es) ≡ behind r es
behind_there s r es ne = let other : nat_eq s r ≡ false = grind (arith, nat_tests) in rw other refl

-- no task is in a scope that was never opened
fresh : (m : Parts) → InOrder (live_of m) → (u r : ℕ) → home_at (homes m) u ≡ Some r → r ≢ length (keepers m)
fresh m order u r home same =
    let p = scope_stands m r (order.inside u r (home_seen m u ∙ home)).stands in
    let less = inside_of m.tree.scopes r (λ none. let never : Some p.0 ≡ None = sym p.1 ∙ none in cc) in
    let long : length (keepers m) ≡ length m.tree.scopes = length-map m.tree.scopes (option_map keeper_of) in
    absurd (omega (arith, less, long, same))

opened_shared : (m : Parts) (t x : ℕ) (joiner : Joiner) (timed : Bool) → IsStore m → InOrder (live_of m) → (l : Lived m t) → AreShared m.chains (set (holders m) t (Some (holder_of (record l.run { frame = entered l.run.frame x (length m.tree.scopes) })))) (keepers m ++ Some (keeper_of (opened t joiner timed l.run.env)) ∷ []) (homes m)
opened_shared m t x joiner timed is order l =
    record {
      own = is.shared.own;
      outside = instead is.shared.outside (length (keepers m)) (is.shared.own t);
      shares = open_shares is.shared.shares t h g (map_at holder_of m.frames.slots t ∙ ap (option_map holder_of) l.runs) refl
          counted
          (ap (λ s. behind s g.entries) long ∙ behind_here (length m.tree.scopes) l.run.frame.entries)
          (λ r ne. behind_there (length m.tree.scopes) r l.run.frame.entries (λ same. ne (same ∙ sym long)))
          (fresh m order);
    }
  where
    h : Holder
    h = holder_of l.run

    g : Holder
    g = holder_of (record l.run { frame = entered l.run.frame x (length m.tree.scopes) })

    long : length (keepers m) ≡ length m.tree.scopes
    long = length-map m.tree.scopes (option_map keeper_of)

    counted : count_by is_binding g.entries ≡ count_by is_binding h.entries
    counted = let one = sum_by-cons (λ (e : Entry). cond (is_binding e) 1 0) (entry.Scope (length m.tree.scopes)) l.run.frame.entries in omega (arith, one)

pub open_kept : (m : Parts) (t x : ℕ) (joiner : Joiner) (timed : Bool) (keys : List ℕ) (room : ℕ) → IsStore m → InOrder (live_of m) → (l : Lived m t) → IsStore (with_scope_more m t l.run (entered l.run.frame x (length m.tree.scopes)) (opened t joiner timed l.run.env) keys room)
open_kept m t x joiner timed keys room is order l =
    record {
      born = length-set m.frames.slots t (Some q) ∙ is.born;
      alive = λ u. still_some m.frames.slots t u l.run q l.runs ∙ is.alive u;
      shared = rw (map-set (option_map holder_of) m.frames.slots t (Some q), map-append (option_map keeper_of) m.tree.scopes (Some (opened t joiner timed l.run.env) ∷ [])) (opened_shared m t x joiner timed is order l);
    }
  where
    q : Running
    q = record l.run { frame = entered l.run.frame x (length m.tree.scopes) }

-- ---- what the calls leave: the tree with the scope, and the frame of its opener

pub as_opened : (m : Parts) (t x : ℕ) (joiner : Joiner) (timed : Bool) (l : Lived m t) (g : Forest Env) (f : Frame) → g ≡ with_opened m.tree (opened t joiner timed l.run.env) g.scope_keys (m.tree.scope_room - 1) → f ≡ entered l.run.frame x (length m.tree.scopes) → with_running (record m { tree = g }) t (record l.run { frame = f }) m.chains ≡ with_scope_more m t l.run (entered l.run.frame x (length m.tree.scopes)) (opened t joiner timed l.run.env) g.scope_keys (m.tree.scope_room - 1)
as_opened m t x joiner timed l g f tree frame =
    ap (λ h. with_running (record m { tree = g }) t (record l.run { frame = h }) m.chains) frame
    ∙ ap (λ (h : Forest Env). with_running (record m { tree = h }) t (record l.run { frame = entered l.run.frame x (length m.tree.scopes) }) m.chains) tree
