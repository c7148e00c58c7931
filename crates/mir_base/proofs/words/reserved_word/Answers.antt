use Rattle.std.proofs.Common.{◌≡◌, false, nat_eq, length, refl, sym, ◌∙◌, arith}
use Rattle.std.proofs.lemmas.Bool.Decides.{nat_tests}
use Rattle.mir_base.proofs.Reserved.{by_length, none_of_length}
use Rattle.mir_base.proofs.words.reserved_word.Goals as goal

pub returns-in-2 : goal.returns-in-2
returns-in-2 c = c.word_among.ensures ∙ sym (by_length 2 c.args.bytes.now c.in-2.is)

pub returns-in-3 : goal.returns-in-3
returns-in-3 c = c.word_among-in-3.ensures ∙ sym (by_length 3 c.args.bytes.now c.in-3.is)

pub returns-in-4 : goal.returns-in-4
returns-in-4 c = c.word_among-in-4.ensures ∙ sym (by_length 4 c.args.bytes.now c.in-4.is)

pub returns-in-5 : goal.returns-in-5
returns-in-5 c = c.word_among-in-5.ensures ∙ sym (by_length 5 c.args.bytes.now c.in-5.is)

pub returns-in-6 : goal.returns-in-6
returns-in-6 c = c.word_among-in-6.ensures ∙ sym (by_length 6 c.args.bytes.now c.in-6.is)

pub returns-in-7 : goal.returns-in-7
returns-in-7 c = c.word_among-in-7.ensures ∙ sym (by_length 7 c.args.bytes.now c.in-7.is)

pub returns-in-8 : goal.returns-in-8
returns-in-8 c = c.word_among-in-8.ensures ∙ sym (by_length 8 c.args.bytes.now c.in-8.is)

pub returns-in_default : goal.returns-in_default
returns-in_default c =
    let n = length c.args.bytes.now in
    let e2 : nat_eq 2 n ≡ false = grind (arith, nat_tests) in
    let e3 : nat_eq 3 n ≡ false = grind (arith, nat_tests) in
    let e4 : nat_eq 4 n ≡ false = grind (arith, nat_tests) in
    let e5 : nat_eq 5 n ≡ false = grind (arith, nat_tests) in
    let e6 : nat_eq 6 n ≡ false = grind (arith, nat_tests) in
    let e7 : nat_eq 7 n ≡ false = grind (arith, nat_tests) in
    let e8 : nat_eq 8 n ≡ false = grind (arith, nat_tests) in
    sym (by_length n c.args.bytes.now refl ∙ none_of_length n c.args.bytes.now e2 e3 e4 e5 e6 e7 e8)
