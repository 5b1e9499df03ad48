use Rattle.std.proofs.Common.{◌≡◌, ℕ, List, ◌++◌}
use Rattle.std.proofs.lemmas.Result.{on_ok_weaker}
use Rattle.laws_words.proofs.AppendLemmas.{two_parts}
use Rattle.look_end_lines.specs.Lines as def
use Rattle.look_end_lines.proofs.form.say_search.Goals as goal

-- five parts, one after the other
five_parts : (old a b c d e one two three four new : List ℕ) → one ≡ old ++ a → two ≡ one ++ b → three ≡ two ++ c → four ≡ three ++ d → new ≡ four ++ e
    → new ≡ old ++ (a ++ (b ++ (c ++ (d ++ e))))
five_parts old a b c d e one two three four new first second third fourth last =
    two_parts old a (b ++ (c ++ (d ++ e))) one new first
    (two_parts one b (c ++ (d ++ e)) two new second (two_parts two c (d ++ e) three new third (two_parts three d e four new fourth last)))

pub returns : goal.returns
returns c =
    let search = c.args.search in
    let ends = search.ends.now in
    let one = rw c.as_slice-found.ensures.value at c.in_ok-say_all.ensures in
    let two = rw c.as_slice-found.ensures.value at c.in_ok-say_refused.ensures in
    let last = rw c.as_slice-found.ensures.value at c.say_no_number.ensures in
    on_ok_weaker c.say_no_number.result
    (λ h. five_parts c.args.out.now.items (def.found_lines search.names.now search.setting.now.program ends.found.items 0)
    (def.refused_line search.setting.now search.is_refused ends.whole ends.found.items) (def.by_calls_line ends.by_calls)
    (def.states_line ends.whole ends.states) (def.no_number_line search.number ends.found.items) _ _ _ _ _
    one two c.in_ok-say_by_calls.ensures c.in_ok-say_states.ensures h)
    last
