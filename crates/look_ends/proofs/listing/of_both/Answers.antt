use Rattle.std.proofs.Common.{◌≡◌, true, subst}
use Rattle.std.proofs.lemmas.Result.{IfOk-weaker}
use Rattle.ends_whole.specs.Whole.{AreAllOf}
use Rattle.ends_plain.specs.Listed.{AreEnds}
use Rattle.ends_plain.specs.declared.config.Setting.{Setting}
use Rattle.look_ends.proofs.ListingLemmas.{search_of}
use Rattle.look_ends.proofs.listing.of_both.Goals as goal

pub answered-requires : goal.answered-requires
answered-requires g c = record {
  calls = rw c.setting-setting.ensures c.requires.calls;
  called = rw c.setting-setting.ensures c.requires.called;
  ends = rw c.setting-setting.ensures c.in_ok-ends.ensures.sound;
  all = rw c.setting-setting.ensures c.in_ok-ends.ensures.complete;
}

pub returns : goal.returns
returns g c =
    let all = c.in_ok-all.all in
    let seen = c.setting-setting.ensures in
    let sound = subst (λ (y : Setting). AreEnds y all.found.items) seen c.in_ok-all.ensures.sound in
    let complete = subst (λ (y : Setting). all.whole ≡ true → AreAllOf y all.found.items) seen c.in_ok-all.ensures.complete in
    IfOk-weaker c.searched.result _ _
    (λ l h. search_of (g.F.EndsForm.shows c.args.form.now) c.args.exploration.now c.setting-setting.result.now c.args.names.now
    c.args.number c.args.is_refused all.found.items all.states all.whole all.by_calls l
    seen sound complete c.requires.verdict h)
    c.searched.ensures
