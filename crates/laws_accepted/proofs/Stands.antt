-- A typed task in front of an instruction, and the place after its step.
use Rattle.std.proofs.Common.{◌≡◌, ℕ, zero, suc, ◌+◌, ◌<◌, List, [], ◌∷◌, length, map, false, Option, Some, refl, sym, subst, slice_get, slice_index_or}
use Rattle.sts_code.specs.Program.{Program, routine}
use Rattle.sts_code.specs.declared.instr.Instr.{Instr}
use Rattle.sts_code.specs.declared.instr.Instr.TheVariants.{Ret}
use Rattle.sts_model.specs.declared.record.Frame.{Frame}
use Rattle.sts_model.specs.declared.record.Loop.{Loop}
use Rattle.sts_model.specs.declared.record.Entry.{Entry}
use Rattle.sts_model.specs.declared.record.Slot.{Slot}
use Rattle.sts_model.specs.declared.record.Slot.TheVariants.{Empty}
use Rattle.sts_rules.specs.declared.typing.SlotKind.{SlotKind}
use Rattle.sts_rules.specs.declared.typing.SlotKind.TheVariants as kind_of
use Rattle.sts_rules.specs.declared.typing.TypedEntry.{TypedEntry}
use Rattle.sts_model.specs.World.{World, instr_at}
use Rattle.sts_model.specs.Misuse.{slot}
use Rattle.sts_rules.specs.TypeState.{TypeState, kind}
use Rattle.sts_code.specs.Program as program
use Rattle.sts_rules.specs.Edges.{follows, typing, back_of}
use Rattle.sts_rules.specs.Fits as clear
use Rattle.sts_rules.specs.Flow.{Reaches, Leads}
use Rattle.sts_rules.specs.Promises.{TypingPromises, IsPromised}
use Rattle.sts_rules.specs.Refusal.{IsAccepted, size}
use Rattle.laws_accepted.specs.Typed.{closes, FitsEntry, FitsSlot, Zips, Fits, IsTyped}
use Rattle.laws_accepted.proofs.Zips.{zips-map}
use Rattle.laws_accepted.proofs.Same.{Same, Onward, entry-on, slot-on, fits-same}

-- the frame fits a typestate in front of this instruction, at which no cause holds
pub record Stands (p : Program) (w : World) (f : Frame) (i : Instr) (s : TypeState) : Type 0 where
  pub at : instr_at p f ≡ Some i
  pub inside : f.function < length p.routines
  pub reached : Reaches (typing p f.function) f.pc s
  pub fits : Fits p w f s
  pub clear : clear.Fits p f.function f.pc i s
  pub leads : (to : ℕ) (x : TypeState) → Leads (follows p (routine p f.function).code f.pc i s) to x → Reaches (typing p f.function) to x
  pub back : (to : ℕ) → back_of i s ≡ Some to → to < size p f.function → Reaches (typing p f.function) to s

got : {X : Type 0} (xs : List X) (n : ℕ) (x d : X) → slice_get xs n ≡ Some x → slice_index_or xs n d ≡ x
got [] n x d e = cc
got (y ∷ ys) zero x d e = cc
got (y ∷ ys) (suc n) x d e = got ys n x d e

pub stands-typed : (p : Program) (w : World) (f : Frame) (o : Option ℕ) (i : Instr) → IsAccepted p → TypingPromises p → (h : IsTyped p w f o) → instr_at p f ≡ Some i → Stands p w f i h.state
stands-typed p w f o i accepted promises h at =
    let here : program.instr_at (routine p f.function).code f.pc ≡ i = got (routine p f.function).code f.pc i Ret at in
    let ready : IsPromised p f.function f.pc h.state = promises f.function f.pc h.state h.function h.reached in
    record {
      at = at;
      inside = h.function;
      reached = h.reached;
      fits = h.fits;
      clear = rw here at ready.fits;
      leads = rw here at ready.leads;
      back = λ to e less.
          let there = (accepted.sound f.function h.function).typed to less in
          let same : there.state ≡ h.state = ready.turns to there.state (rw here e) there.alone.0 in
          subst (λ (x : TypeState). Reaches (typing p f.function) to x) same there.alone.0;
    }

-- after a step the frame fits a typestate that is reached
pub record Lands (p : Program) (w : World) (f g : Frame) : Type 0 where
  pub function : g.function ≡ f.function
  pub state : TypeState
  pub reached : Reaches (typing p f.function) g.pc state
  pub fits : Fits p w g state

-- a step to the next place, along the first edge
pub lands-forward : (p : Program) (w v : World) (f g : Frame) (i : Instr) (s x : TypeState) → Stands p w f i s → g.function ≡ f.function → g.pc ≡ f.pc + 1 → Leads (follows p (routine p f.function).code f.pc i s) (f.pc + 1) x → Fits p v g x → Lands p v f g
lands-forward p w v f g i s x st function next leads fits = record { function = function; state = x; reached = subst (λ (n : ℕ). Reaches (typing p f.function) n x) (sym next) (st.leads (f.pc + 1) x leads); fits = fits }

pub lands-same : (p : Program) (w v : World) (f g : Frame) → Same w v g → Lands p w f g → Lands p v f g
lands-same p w v f g same h = record { function = h.function; state = h.state; reached = h.reached; fits = fits-same p w v g h.state same h.fits }

-- the instruction is no `close`
pub not_closing : (p : Program) (f : Frame) (i : Instr) → instr_at p f ≡ Some i → ((x : ℕ) → closes (Some i) x ≡ false) → (x : ℕ) → closes (instr_at p f) x ≡ false
not_closing p f i at none x = rw at (none x)

-- the frame keeps its loops, entries and slots
pub record Keeps (f g : Frame) : Type 0 where
  pub function : g.function ≡ f.function
  pub loops : g.loops ≡ f.loops
  pub entries : g.entries ≡ f.entries
  pub slots : g.slots ≡ f.slots

pub onward-slots : (p : Program) (f g : Frame) → g.function ≡ f.function → g.slots ≡ f.slots → ((x : ℕ) → closes (instr_at p f) x ≡ false) → Onward p f g
onward-slots p f g function slots still = record { function = function; own = λ x n e. rw slots e; still = still }

-- only operands and loops of frame and typestate changed
pub fits-onward : (p : Program) (w : World) (f g : Frame) (s x : TypeState) → Fits p w f s → ((y : ℕ) → closes (instr_at p f) y ≡ false) → g.function ≡ f.function → g.entries ≡ f.entries → g.slots ≡ f.slots → x.entries ≡ s.entries → x.slots ≡ s.slots → length g.operands ≡ x.height → map (λ (l : Loop). l.at) g.loops ≡ map (λ l. l.at) x.loops → Fits p w g x
fits-onward p w f g s x h still function entries slots typed_entries typed_slots height loops =
    let on = onward-slots p f g function slots still in
    record {
      height = height;
      loops = loops;
      entries =
          subst (λ (es : List Entry). Zips (FitsEntry p w g) es x.entries) (sym entries)
          (subst (λ (rs : List TypedEntry). Zips (FitsEntry p w g) f.entries rs) (sym typed_entries) (zips-map (FitsEntry p w f) (FitsEntry p w g) f.entries s.entries (entry-on p w f g on) h.entries));
      slots = λ y.
          subst (λ (xs : List Slot). FitsSlot w g (slice_index_or xs y Empty) (kind x y)) (sym slots)
          (subst (λ (ks : List SlotKind). FitsSlot w g (slot f y) (slice_index_or ks y kind_of.Empty)) (sym typed_slots) (slot-on p w f g on (slot f y) (kind s y) (h.slots y)));
      apart = rw slots h.apart;
      wide = rw slots h.wide;
      typed_wide = rw typed_slots h.typed_wide;
    }

-- only operands changed
pub lands-operands : (p : Program) (w : World) (f g : Frame) (i : Instr) (s : TypeState) (height : ℕ) → Stands p w f i s → ((x : ℕ) → closes (Some i) x ≡ false) → Keeps f g → length g.operands ≡ height → Leads (follows p (routine p f.function).code f.pc i s) g.pc (record s { height = height }) → Lands p w f g
lands-operands p w f g i s height h none k long leads =
    record {
      function = k.function;
      state = record s { height = height };
      reached = h.leads g.pc (record s { height = height }) leads;
      fits = fits-onward p w f g s (record s { height = height }) h.fits (not_closing p f i h.at none) k.function k.entries k.slots refl refl long (rw (k.loops) h.fits.loops);
    }
