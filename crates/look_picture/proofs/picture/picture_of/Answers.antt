use Rattle.std.proofs.Common.{◌≡◌, ℕ, Bool, List, Option, Result, ◌++◌, ◌∙◌, ap, ap₂}
use Rattle.std.specs.Prelude.{IfOk}
use Rattle.std.proofs.lemmas.Result.{IfOk-weaker}
use Rattle.sts_code.specs.Program.{Program}
use Rattle.sts_model.specs.declared.event.Event.{Event}
use Rattle.sts_output.specs.Output.{Output}
use Rattle.look_tell.specs.Story.{Story, after_events}
use Rattle.look_picture.specs.Picture as def
use Rattle.look_picture.specs.Picture.{picture}
use Rattle.look_picture.specs.declared.title.FileNames.{FileNames}
use Rattle.look_drawing.specs.declared.window.Drawn.{Drawn}
use Rattle.look_picture.proofs.picture.picture_of.Goals as goal

-- the columns in their frame are the picture of the events
drawn_sheet : {E : Type 0} (r : Result Output E) (files : Option FileNames) (text : List ℕ) (brief : Bool) (p : Program) (d : Drawn) (es : List Event) (s : Story) (n : ℕ) (xs : List ℕ) → s ≡ after_events p es → n ≡ def.count text brief p d.before es → xs ≡ def.columns text brief p d.before es → IfOk r (λ o. o ≡ def.sheet_output files text s d brief n xs) → IfOk r (λ o. o ≡ def.drawn_output files text brief p d es)
unfolding picture
drawn_sheet r files text brief p d es s n xs told counted drawn h =
    let count = def.count text brief p d.before es in
    let same = ap (λ (k : ℕ). def.sheet_output files text s d brief k xs) counted
    ∙ ap₂ (λ (t : Story) (ys : List ℕ). def.sheet_output files text t d brief count ys) told drawn in
    IfOk-weaker r (λ o. o ≡ def.sheet_output files text s d brief n xs) (λ o. o ≡ def.drawn_output files text brief p d es) (λ o e. e ∙ same) h

pub returns : goal.returns
returns c =
    let text = c.args.manner.names.now in
    let brief = c.args.manner.brief in
    let p = c.args.program.now in
    let es = c.args.events.now in
    let d = c.args.drawn in
    let found = c.in_ok-found.found in
    let drawn = c.in_ok-found.ensures.drawn ∙ ap (λ xs. xs ++ def.columns text brief p d.before es) c.new-columns_text.ensures.bytes in
    drawn_sheet c.sheet_output.result c.args.files text brief p d es found.story found.count c.as_str.result.now
    c.in_ok-found.ensures.told c.in_ok-found.ensures.counted (c.as_str.ensures.value ∙ drawn) c.sheet_output.ensures
