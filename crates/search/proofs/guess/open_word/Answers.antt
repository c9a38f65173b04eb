use native.Mathlib.Omega.{arith}
use Rattle.std.proofs.Common.{rules, tests, ◌≡◌, ◌≢◌, ◌+◌}
use Rattle.std.proofs.lemmas.Iterator.{first_from_Range, serves_from_Range}
use Rattle.words.proofs.Falls.{none_open, open_none}
use Rattle.lists.specs.Lists.{at}
use Rattle.search.proofs.Guesses.{lowest_first}
use Rattle.search.proofs.guess.open_word.Goals as goal

pub find-requires : goal.find-requires
find-requires c = record { can = tt; finite = tt; callable = serves_from_Range (λ x q k. search (rules, tests)) (λ x low high. grind (arith, tests, rules)) }

pub returns : goal.returns
returns c =
    let l = c.args.work.now in
    lowest_first c.args.n l _
    (first_from_Range _ _ _ _ (λ i. at l i ≢ at l (i + 32)) (λ i. at l i ≡ at l (i + 32)) c.find.ensures.ran
    (λ x q k. grind (arith, tests, none_open))
    (λ x q k. (search rules, grind (arith, tests, open_none))))
