use Rattle.std.proofs.Common.{◌≡◌, ℕ, ◌++◌, ◌∙◌, ap, ap₂, sym, arith, false, take, drop, get_or, ◌+◌, List}
use Rattle.std.specs.String.{string_bytes}
use Rattle.sts_model.specs.declared.event.Event.{Event}
use Rattle.sts_model.specs.declared.event.Event.TheVariants.{Step}
use Rattle.sts_model.specs.World.{World}
use Rattle.look_lines.proofs.WatchedLemmas.{watched_next}
use Rattle.look_lines.specs.Watched.{Watched, after_event, watched}
use Rattle.look_tell.specs.Story.{Story, after_events, next}
use Rattle.look_tell.proofs.StoryLemmas.{after_next, watched_taken, watched_told}
use Rattle.look_picture.proofs.Columns.{applied_of, column_after, count_after, numbered, numbered_at, one_more_few}
use Rattle.look_drawing.proofs.ListingLemmas.{kept_shown}
use Rattle.look_drawing.proofs.WatchingLemmas.{follows_watched, held_watched}
use Rattle.look_drawing.specs.Column.{maybe_column, one_more}
use Rattle.look_drawing.specs.Present as numbers
use Rattle.look_picture.specs.Picture as def
use Rattle.look_drawing.specs.Present.{Follows, Numbers}
use Rattle.look_picture.specs.Told.{event_words}
use Rattle.look_picture.proofs.picture.event_columns.Goals as goal
use Rattle.look_picture.proofs.picture.event_columns.Goals.{In_ok-add_born}

-- the event that was said, and what its column can show
module _ (c : In_ok-add_born) where
  abbrev event : Event
  event = get_or c.args.events.now c.loop-i.i (Step 0)

  seen : c.watch-watch.result.now ≡ after_event (watched c.args.before.now.program (take c.loop-i.i c.args.events.now)) event
  seen =
      let l = c.loop-i in
      c.watch-watch.ensures
      ∙ watched_told c.args.before.now.program c.args.events.now l.i event l.story c.event_words.new.story (omega arith) (omega arith)
      l.invariant.told c.in_ok-words.ensures.after

  seen_next : c.watch-watch.result.now ≡ watched c.args.before.now.program (take (c.loop-i.i + 1) c.args.events.now)
  seen_next = seen ∙ watched_next c.args.before.now.program c.args.events.now c.loop-i.i (Step 0) (omega arith) (omega arith)

  follows : Follows c.loop-i.before.last c.watch-watch.result.now.last
  follows =
      let l = c.loop-i in
      follows_watched c.args.before.now.program (take l.i c.args.events.now) event l.before c.watch-watch.result.now l.invariant.behind seen

  listed : c.add_born.new.self ≡ numbers.shown c.loop-i.before.last c.watch-watch.result.now.last
  listed =
      let l = c.loop-i in
      c.in_ok-add_born.ensures
      ∙ ap₂ (λ (b v : World). numbers.with_born l.present b v) (c.records.ensures ∙ c.world.ensures)
      (c.records-in-loop-i.ensures ∙ c.world-in-loop-i.ensures)
      ∙ ap (λ (n : Numbers). numbers.with_born n l.before.last c.watch-watch.result.now.last) l.invariant.listed

  kept_now : (w : Watched) (v : World) → w ≡ watched c.args.before.now.program (take (c.loop-i.i + 1) c.args.events.now) → v ≡ w.last → numbers.kept c.add_born.new.self v ≡ numbers.present w.last
  kept_now w v made read =
      let same = ap (λ (x : Watched). x.last) (made ∙ sym seen_next) in
      ap₂ (λ (n : Numbers) (x : World). numbers.kept n x) listed (read ∙ same)
      ∙ kept_shown c.loop-i.before.last c.watch-watch.result.now.last follows ∙ ap numbers.present (sym same)

  said : string_bytes c.in_ok-words.words ≡ event_words c.args.manner.names.now c.args.manner.brief (c.loop-i.i + 1) (after_events c.args.before.now.program (take c.loop-i.i c.args.events.now)) event
  said =
      c.in_ok-words.ensures.said
      ∙ ap (λ (s : Story). event_words c.args.manner.names.now c.args.manner.brief (c.loop-i.i + 1) s event) c.loop-i.invariant.told

  told_next : c.event_words.new.story ≡ after_events c.args.before.now.program (take (c.loop-i.i + 1) c.args.events.now)
  told_next =
      c.in_ok-words.ensures.after ∙ ap (λ (s : Story). next false s event) c.loop-i.invariant.told
      ∙ after_next c.args.before.now.program c.args.events.now c.loop-i.i (Step 0) (omega arith)

  is_numbered : applied_of (c.loop-i.i + 1) event c.counts-is_counted.result ≡ numbered c.args.before.now.program (take c.loop-i.i c.args.events.now) (c.loop-i.i + 1) event
  is_numbered =
      ap (applied_of (c.loop-i.i + 1) event) c.counts-is_counted.ensures
      ∙ ap (λ (w : Watched). numbered_at w (c.loop-i.i + 1) event)
      (watched_taken c.args.before.now.program c.args.events.now c.loop-i.i c.loop-i.story (omega arith) (omega arith) c.loop-i.invariant.told)

  counted : (words : List ℕ) (m : ℕ) → words ≡ string_bytes c.in_ok-words.words → m ≡ one_more words c.loop-i.columns → def.count_from c.args.manner.names.now c.args.manner.brief c.args.before.now.program m (take (c.loop-i.i + 1) c.args.events.now) (drop (c.loop-i.i + 1) c.args.events.now) ≡ def.count_from c.args.manner.names.now c.args.manner.brief c.args.before.now.program 0 (take c.args.skipped c.args.events.now) (drop c.args.skipped c.args.events.now)
  counted words m same more =
      count_after c.args.manner.names.now c.args.manner.brief c.args.before.now.program c.loop-i.columns c.args.events.now c.loop-i.i (Step 0) words m
      (omega arith) (same ∙ said) more
      ∙ c.loop-i.invariant.counted

  drawn : (words : List ℕ) (m : ℕ) (new : List ℕ) → words ≡ string_bytes c.in_ok-words.words → m ≡ one_more words c.loop-i.columns → new ≡ string_bytes c.loop-i.out ++ maybe_column c.args.manner.names.now words c.loop-i.before c.watch-watch.result.now c.args.manner.brief c.loop-i.columns (applied_of (c.loop-i.i + 1) event c.counts-is_counted.result) → new ++ def.columns_from c.args.manner.names.now c.args.manner.brief c.args.before.now.program m (take (c.loop-i.i + 1) c.args.events.now) (drop (c.loop-i.i + 1) c.args.events.now) ≡ string_bytes c.args.out.now ++ def.columns_from c.args.manner.names.now c.args.manner.brief c.args.before.now.program 0 (take c.args.skipped c.args.events.now) (drop c.args.skipped c.args.events.now)
  drawn words m new same more made =
      column_after c.args.manner.names.now c.args.manner.brief c.args.before.now.program c.loop-i.columns c.args.events.now c.loop-i.i (Step 0) words m
      c.loop-i.before c.watch-watch.result.now (applied_of (c.loop-i.i + 1) event c.counts-is_counted.result) (string_bytes c.loop-i.out) new
      (omega arith) (same ∙ said) more c.loop-i.invariant.behind seen_next is_numbered made
      ∙ c.loop-i.invariant.drawn

pub invariant_of-seen-clause-follows : goal.invariant_of-seen-clause-follows
invariant_of-seen-clause-follows c = follows (goal.at.invariant_of-seen-clause-follows c).In_ok-add_born

pub invariant_of-seen-clause-held : goal.invariant_of-seen-clause-held
invariant_of-seen-clause-held c =
    held_watched c.args.before.now.program (take (c.loop-i.i + 1) c.args.events.now) c.watch-watch.result.now
    (seen_next (goal.at.invariant_of-seen-clause-held c).In_ok-add_born)

pub invariant_of-seen-clause-listed : goal.invariant_of-seen-clause-listed
invariant_of-seen-clause-listed c = listed (goal.at.invariant_of-seen-clause-listed c).In_ok-add_born

pub loop-i-preserved : goal.loop-i-preserved
loop-i-preserved c =
    let a = (goal.at.loop-i-preserved c).In_ok-add_born in
    let more = c.in_ok-more.ensures in
    let behind = c.in_ok-apply.ensures.ok ∙ ap (λ (w : Watched). after_event w (event a)) c.loop-i.invariant.behind ∙ sym (seen a) ∙ seen_next a in
    record {
      behind = behind;
      told = told_next a;
      few = let step = one_more_few c.as_str.result.now c.loop-i.columns in omega (arith, more.counted, step);
      listed = c.keep.ensures ∙ kept_now a _ _ behind (c.records-in-loop-i-2.ensures ∙ c.world-in-loop-i-2.ensures);
      counted = counted a _ _ c.as_str.ensures.value more.counted;
      drawn = drawn a _ _ _ c.as_str.ensures.value more.counted more.drawn;
    }
