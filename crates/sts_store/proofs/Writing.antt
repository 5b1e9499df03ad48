-- The frame of a living task is written: what each call that writes it has to show.
use mir.Val.{SFits, bool_byte, to_z, of_z}
use Rattle.std.proofs.lemmas.Int.{to_z-of_z}
use Rattle.sts_model.specs.Local.{goes, steps, truth}
use Rattle.std.proofs.Common.{◌≡◌, ◌≢◌, ℕ, List, true, Some, None, refl, sym, ◌∙◌, ap, subst, get_or, ◌+◌, ℤ, [], ◌∷◌, Bool, false, pos, w64}
use Rattle.sts_model.specs.Live.{Live}
use Rattle.sts_model.specs.declared.record.Frame.{Frame}
use Rattle.sts_model.specs.declared.record.Entry.{Entry}
use Rattle.laws_live.specs.Reading.{lives_in, with_live_frame}
use Rattle.sts_store.specs.declared.running.Running.{Running}
use Rattle.sts_store.specs.Parts.{Parts, live_of, frame_of}
use Rattle.sts_store.specs.Stored.{IsStore}
use Rattle.sts_store.proofs.Views.{Lived, lived, with_running, frame_seen, same_frame}
use Rattle.sts_store.proofs.Keeping.{kept_frame}
use Rattle.laws_words.proofs.OptionLemmas.{not_none}

-- a task that lives in the contracts' view has its records in the parts
pub living : (m now : Parts) → IsStore m → m ≡ now → (t : ℕ) → lives_in (live_of now) t ≡ true → Lived m t
living m now is same t lives = lived m is t (subst (λ p. lives_in (live_of p) t ≡ true) (sym same) lives)

pub has_frame : {m : Parts} {t : ℕ} → Lived m t → get_or m.frames.slots t None ≢ None
has_frame {m} {t} l = not_none (get_or m.frames.slots t None) l.run l.runs

pub has_task : {m : Parts} {t : ℕ} → Lived m t → get_or m.tree.tasks t None ≢ None
has_task {m} {t} l = not_none (get_or m.tree.tasks t None) l.task l.stands

-- the record of a living task was looked up in the store m, which contracts see as `now`
pub record Hand (m now : Parts) (t : ℕ) (r : Running) : Type 0 where
  pub is : IsStore m
  pub same : m ≡ now
  pub lived : Lived m t
  pub at : get_or m.frames.slots t None ≡ Some r

pub hand_of : {m now : Parts} → IsStore m → m ≡ now → (t : ℕ) → lives_in (live_of now) t ≡ true → {r : Running} → get_or m.frames.slots t None ≡ Some r → Hand m now t r
hand_of {m} {now} is same t lives at = record { is = is; same = same; lived = living m now is same t lives; at = at }

-- another frame with the same structure list keeps the store in order
pub entries_kept : (m : Parts) (t : ℕ) (r : Running) (f : Frame) → IsStore m → get_or m.frames.slots t None ≡ Some r → f.entries ≡ r.frame.entries → IsStore (with_running m t (record r { frame = f }) m.chains)
entries_kept m t r f is at entries = kept_frame m t r (record r { frame = f }) is at (ap (λ (es : List Entry). record { env = r.env; entries = es }) entries)

module _ {m now : Parts} {t : ℕ} {r : Running} (h : Hand m now t r) where
  -- the frame in the record is the frame that contracts see
  pub frame_is : frame_of now t ≡ r.frame
  frame_is = ap (λ p. frame_of p t) (sym h.same) ∙ same_frame m t r h.lived h.at

  -- a fact of the frame that contracts see is a fact of the frame in the record
  pub at_hand : (P : Frame → Type 0) → P (frame_of now t) → P r.frame
  at_hand P fact = subst P frame_is fact

  -- the view after a change of the frame in the record is the change of the frame in the view
  pub frame_done : (f : Frame) (word : Frame → Frame) → f ≡ word r.frame → live_of (with_running m t (record r { frame = f }) m.chains) ≡ with_live_frame (live_of now) t (word (frame_of now t))
  frame_done f word is =
      frame_seen m t r (record r { frame = f }) (λ alive. record alive { frame = f }) h.at (λ flag. refl)
      ∙ ap (with_live_frame (live_of m) t) (is ∙ ap word (sym frame_is))
      ∙ ap (λ p. with_live_frame (live_of p) t (word (frame_of now t))) h.same

  pub frame_kept : (f : Frame) → f.entries ≡ r.frame.entries → IsStore (with_running m t (record r { frame = f }) m.chains)
  frame_kept f entries = entries_kept m t r f h.is h.at entries

-- ---- what was looked up is written

pub as_truth : (b : Bool) → pos (bool_byte b) ≡ truth b
as_truth true = refl
as_truth false = refl

-- a truth value that is pushed
pub truth_pushed : (z : ℤ) (a b : Bool) → SFits w64 z → z ≡ pos (bool_byte a) → a ≡ b → to_z w64 (of_z w64 z) ≡ truth b
truth_pushed z a b fits is same = to_z-of_z w64 z fits ∙ is ∙ as_truth a ∙ ap truth same

-- a task that pushed what was looked up, and went on
pub went_on : (now : Parts) (new : Live) (t n : ℕ) (f : Frame) (v w : ℤ) → new ≡ with_live_frame (live_of now) t (goes (frame_of now t) (f.pc + 1) n (v ∷ [])) → f ≡ frame_of now t → v ≡ w → new ≡ with_live_frame (live_of now) t (steps (frame_of now t) n (w ∷ []))
went_on now new t n f v w is same value =
    is
    ∙ ap (λ z. with_live_frame (live_of now) t (goes (frame_of now t) (f.pc + 1) n (z ∷ []))) value
    ∙ ap (λ (g : Frame). with_live_frame (live_of now) t (goes (frame_of now t) (g.pc + 1) n (w ∷ []))) same
