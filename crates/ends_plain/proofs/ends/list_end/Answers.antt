use Rattle.std.proofs.Common.{◌≡◌, ◌<◌, ◌∙◌, length, arith, refl, sym, ap, false}
use Rattle.std.specs.Prelude.{slice_index_or}
use Rattle.std.proofs.lemmas.List.{get_or_default}
use Rattle.ends_search.specs.Search.{origin_at, no_origin, states_of}
use Rattle.ends_search.specs.declared.origin.Origin.{Origin}
use Rattle.ends_plain.specs.declared.config.Found.{Found}
use Rattle.ends_plain.specs.Configs.{next_kept, is_last}
use Rattle.ends_plain.specs.Listed.{ends_of}
use Rattle.ends_plain.proofs.ListedLemmas.{shown_more, shown_here, has_pushed, has_skipped}
use Rattle.ends_plain.proofs.ends.list_end.Goals as goal

pub returns-then-not-marked-clause-all : goal.returns-then-not-marked-clause-all
returns-then-not-marked-clause-all c =
    let g = c.args.asked.now.setting in
    let s = c.args.space.now in
    let states = states_of (next_kept c.args.asked.now) s.first s.origins.items in
    let place = c.args.place in
    let within : place < length states = omega (arith, c.requires.within, c.requires.space.searched.traced.as_many) in
    let x = slice_index_or states place s.first in
    let o = c.index.result.now in
    let same : o ≡ origin_at s.origins.items place = c.index.ensures ∙ get_or_default s.origins.items place o no_origin c.requires.within in
    let unmarked : o.is_last ≡ false = grind (arith, c.if-not-marked.true) in
    let other : is_last x ≡ false = sym (c.requires.space.searched.traced.marked place within s.first) ∙ ap (λ (r : Origin). r.is_last) (sym same) ∙ unmarked in
    has_skipped states place x (ends_of c.args.found.now.items) within (get_or_default states place s.first x within) c.requires.before (λ e. cc)

pub returns-then-not-is_new-clause-all : goal.returns-then-not-is_new-clause-all
returns-then-not-is_new-clause-all c =
    let s = c.args.space.now in
    let states = states_of (next_kept c.args.asked.now) s.first s.origins.items in
    let place = c.args.place in
    let within : place < length states = omega (arith, c.requires.within, c.requires.space.searched.traced.as_many) in
    let x = slice_index_or states place s.first in
    let old = c.is_new.ensures.no c.if-not-is_new.true in
    has_skipped states place x (ends_of c.args.found.now.items) within (get_or_default states place s.first x within) c.requires.before
    (rw (c.as_slice.ensures.value, c.in_ok-end.ensures) at old)

pub returns-clause-shown : goal.returns-clause-shown
returns-clause-shown c =
    let g = c.args.asked.now.setting in
    let s = c.args.space.now in
    let states = states_of (next_kept c.args.asked.now) s.first s.origins.items in
    let x = slice_index_or states c.args.place s.first in
    let f : Found = record { end = c.in_ok-end.end; trace = c.in_ok-trace.trace } in
    let way = c.in_ok-trace.ensures x (rw c.as_slice-2.ensures.value c.in_ok-events.ensures) in
    rw c.in_ok-push.ensures.items (
    shown_more g s.first c.args.found.now.items c.in_ok-one.one c.requires.shown (c.in_ok-one.ensures.shown
    (shown_here g s.first x x f way refl c.in_ok-end.ensures (c.is_new.ensures.yes c.if-not-is_new.false)))
    )

pub returns-clause-all : goal.returns-clause-all
returns-clause-all c =
    let s = c.args.space.now in
    let states = states_of (next_kept c.args.asked.now) s.first s.origins.items in
    let place = c.args.place in
    let within : place < length states = omega (arith, c.requires.within, c.requires.space.searched.traced.as_many) in
    let x = slice_index_or states place s.first in
    rw c.in_ok-push.ensures.items (
    has_pushed states place x c.args.found.now.items c.in_ok-one.one within (get_or_default states place s.first x within) c.requires.before
    (c.in_ok-one.ensures.end ∙ c.in_ok-end.ensures)
    )
