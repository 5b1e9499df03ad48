-- Walks, and what they show of a call.
use Rattle.std.proofs.Common.{◌≡◌, ℕ, ℤ, ◌⊎◌, inl, inr, List, [], ◌∷◌, ◌++◌, Bool, ap, sym, subst, ◌∙◌, append_assoc}
use Rattle.std.specs.List.{Contains}
use Rattle.std.proofs.lemmas.List.{append-nil}
use Rattle.std.proofs.lemmas.List.Elements.{Contains-append_cases}
use Rattle.sts_code.proofs.ListLemmas.{sole}
use Rattle.sts_model.specs.declared.event.End.{End}
use Rattle.sts_model.specs.declared.event.Event.{Event}
use Rattle.sts_model.specs.Run.{after}
use Rattle.sts_model.specs.World.{State}
use Rattle.ends_plain.specs.declared.config.Config.{Config}
use Rattle.ends_plain.specs.declared.config.Setting.{Setting}
use Rattle.ends_plain.specs.Configs.{start}
use Rattle.ends_plain.proofs.WayLemmas.{allowed, position_after, way_more}
use Rattle.look_calls.specs.Calls.{AreCallEnds, HasEnded, IsBorn, IsCallEnd, IsForked, IsUnborn}
use Rattle.look_calls.specs.Walks.{GoesOn, IsForkedBy, IsNext, IsWalk}
use Rattle.look_calls.specs.declared.checked.Forked.{Forked}
use Rattle.look_calls.specs.declared.found.CallEnd.{CallEnd}
use Rattle.look_calls.specs.declared.walk.Walk.{Walk}

-- ---- walks

-- no event more
pub stays : (g : Setting) (w : Walk) → IsWalk g w → GoesOn g w w
stays g w walk = record { later = []; trace = sym (append-nil w.trace.items); walk = walk }

-- one event more
pub walk_more : (g : Setting) (w more : Walk) (e : Event) → IsWalk g w → IsNext g w e more → IsWalk g more
walk_more g w more e walk one = rw (one.trace, one.leads) (way_more g (start g) w.config w.trace.items e walk one.comes)

pub goes_further : (g : Setting) (first w more : Walk) (e : Event) → GoesOn g first w → IsNext g w e more → GoesOn g first more
goes_further g first w more e on one = record {
  later = on.later ++ e ∷ [];
  trace = one.trace ∙ ap (λ (es : List Event). es ++ e ∷ []) on.trace ∙ append_assoc first.trace.items on.later (e ∷ []);
  walk = walk_more g w more e on.walk one;
}

-- the state of a walk is that of the machine
pub state_after : (g : Setting) (w : Walk) → IsWalk g w → w.config.position ≡ after g.program w.trace.items
state_after g w walk = ap (λ (x : Config). x.position) (sym walk.leads) ∙ position_after g (start g) w.trace.items

-- ---- what a walk shows

-- its last event forks a task
pub forks : (g : Setting) (before w : Walk) (e : Event) (t function : ℕ) (arguments : List ℤ) → IsWalk g before → IsNext g before e w → IsUnborn before.config.position t
    → IsBorn g.program w.config.position t function arguments → IsForked g.program w.trace.items t function arguments
forks g before w e t function arguments walk one unborn born = record {
  earlier = before.trace.items;
  fork = e;
  splits = one.trace;
  unborn = subst (λ (s : State). IsUnborn s t) (state_after g before walk) unborn;
  born = subst (λ (s : State). IsBorn g.program s t function arguments) (state_after g w (walk_more g before w e walk one)) born;
}

-- the task has ended
pub shows : (g : Setting) (f : Forked) (last : Walk) (t : ℕ) (end : End) (heard : Bool) → IsForkedBy g t f → GoesOn g f.walk last → HasEnded last.config.position t end heard
    → IsCallEnd g (record { function = f.function; arguments = f.arguments; end = end; is_heard = heard; trace = last.trace })
shows g f last t end heard by on ended = record {
  task = t;
  forking = f.walk.trace.items;
  later = on.later;
  splits = on.trace;
  allowed = allowed g (start g) last.trace.items on.walk.can_all;
  forked = by.forked;
  ended = subst (λ (s : State). HasEnded s t end heard) (state_after g last on.walk) ended;
}

-- ---- lists

pub ends_more : (g : Setting) (found : List CallEnd) (c : CallEnd) → AreCallEnds g found → IsCallEnd g c → AreCallEnds g (found ++ c ∷ [])
ends_more g found c all here e there = by (Contains-append_cases found (c ∷ []) e there)
  where
    by : Contains found e ⊎ Contains (c ∷ []) e → IsCallEnd g e
    by (inl h) = all e h
    by (inr h) = rw (sole c e h.0 h.1 h.2) here
