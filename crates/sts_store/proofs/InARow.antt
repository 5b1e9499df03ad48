-- Local instructions in a row on the frame of a living task.
use Rattle.std.proofs.Common.{◌≡◌, ℕ, zero, suc, List, true, Some, None, sym, ◌∙◌, ap, get_or}
use Rattle.sts_code.specs.declared.instr.Instr.{Instr}
use Rattle.sts_frames.specs.Locals.{locals}
use Rattle.std.proofs.lemmas.Option.{same_Some}
use Rattle.sts_frames.proofs.LocalsLemmas.{last}
use Rattle.sts_model.specs.declared.record.Frame.{Frame}
use Rattle.laws_live.specs.Reading.{lives_in}
use Rattle.sts_store.specs.declared.running.Running.{Running}
use Rattle.sts_store.specs.Parts.{Parts, frame_of, live_of}
use Rattle.sts_store.specs.Stored.{IsStore}
use Rattle.laws_runs.proofs.EntryLemmas.{same-local}
use Rattle.sts_store.proofs.Views.{lived, lives_is, same_frame, with_running}
use Rattle.laws_words.proofs.ListLemmas.{put_there}

-- they keep the structure list
pub locals_entries : (is : List Instr) (f : Frame) (n : ℕ) (g : Frame) → locals is f n ≡ Some g → g.entries ≡ f.entries
locals_entries is f zero g e = ap (λ (h : Frame). h.entries) (sym (same_Some f g e))
locals_entries is f (suc n) g e =
    let l = last is (locals is f n) g e in
    ap (λ (h : Frame). h.entries) l.next ∙ same-local is l.instr l.frame ∙ locals_entries is f n l.frame l.before

-- the frame that was written is the frame in the view
pub frame_now : (m : Parts) (t : ℕ) (r q : Running) → IsStore (with_running m t q m.chains) → lives_in (live_of m) t ≡ true → get_or m.frames.slots t None ≡ Some r → frame_of (with_running m t q m.chains) t ≡ q.frame
frame_now m t r q is lives at =
    let x = with_running m t q m.chains in
    let still : lives_in (live_of x) t ≡ true = lives_is x t ∙ sym (lives_is m t) ∙ lives in
    same_frame x t q (lived x is t still) (put_there m.frames.slots t r q at)
