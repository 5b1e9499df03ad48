use Rattle.std.proofs.Common.{◌≡◌, List, ℕ, ◌++◌, length, ap, ◌∙◌, append_assoc}
use Rattle.std.proofs.lemmas.Result.{on_ok_weaker}
use Rattle.std.specs.String.{string_bytes}
use Rattle.look_drawing.specs.Frame as frame
use Rattle.look_picture.proofs.picture.framed_under.Goals as goal

-- four texts are appended in a row
four_said : (a b d e before one two three four : List ℕ) → one ≡ before ++ a → two ≡ one ++ b → three ≡ two ++ d → four ≡ three ++ e → four ≡ before ++ (a ++ (b ++ (d ++ e)))
four_said a b d e before one two three four f g h i =
    i ∙ ap (λ (x : List ℕ). x ++ e) (h ∙ ap (λ (x : List ℕ). x ++ d) (g ∙ ap (λ (x : List ℕ). x ++ b) f))
    ∙ append_assoc ((before ++ a) ++ b) d e ∙ append_assoc (before ++ a) b (d ++ e) ∙ append_assoc before a (b ++ (d ++ e))

pub returns : goal.returns
returns c =
    let heading = c.args.heading.now in
    let keys = c.args.keys.now in
    let out : List ℕ = string_bytes c.args.out.now in
    let one : List ℕ = string_bytes c.head.new.out in
    let two : List ℕ = string_bytes c.backdrop.new.out in
    let first = c.in_ok-head.ensures ∙ ap (λ w. out ++ frame.head heading w c.args.sheet.brief c.args.sheet.count (length keys)) c.watch-watch.ensures in
    let second = c.in_ok-backdrop.ensures ∙ ap (λ w. one ++ frame.backdrop heading w c.args.sheet.brief c.args.sheet.count) c.watch-watch.ensures in
    on_ok_weaker c.below.result
    (λ h. four_said _ _ _ _ out one two (string_bytes c.push_str.new.self) (string_bytes c.below.new.out) first second c.in_ok-push_str.ensures.bytes h)
    c.below.ensures
