use Rattle.std.proofs.Common.{◌≡◌, ◌<◌, ◌≤◌, [], List, ℕ, length, get_or, ap, arith}
use Rattle.kn_lines.specs.declared.built.HeaderWord.{HeaderWord}
use Rattle.kn_lines.specs.declared.built.HeaderWord.TheVariants.{Heap, Names, Thread, Order}
use Rattle.kn_lines.specs.declared.built.FirstWord.TheVariants.{Header}
use Rattle.kn_lines.specs.Numbers.{value_at}
use Rattle.kn_lines.specs.Values.{values_of}
use Rattle.kn_lines.proofs.OrderLemmas.{orders-same}
use Rattle.kn_script.specs.Scripts.{Progress}
use Rattle.kn_script.specs.Reasons.{reasons_of, MeetsNone}
use Rattle.kn_script.proofs.ReasonLemmas.{MeetsNone-from}
use Rattle.kn_script.proofs.FitLemmas.{MeetsNone-count, MeetsNone-stage, MeetsNone-thread, MeetsNone-heap, MeetsNone-names}
use Rattle.kn_script.proofs.OrderFits.{orders-fit}
use Rattle.kn_script.proofs.progress.Progress.add_header.Goals as goal

meets : (p : Progress) (word known : HeaderWord) (words : List (List ℕ)) → word ≡ known → reasons_of p (Header word) words ≡ [] →
    MeetsNone p (Header known) words
meets p word known words is none = MeetsNone-from p (Header word) (Header known) words (ap (λ w. Header w) is) none

pub from_values-self-inside-requires : goal.from_values-self-inside-requires
from_values-self-inside-requires c =
    let none = meets c.args.self.now c.args.word Heap c.args.words c.in-Heap.is c.requires.fits in
    rw c.requires.values (MeetsNone-heap c.args.self.now c.args.words none)

pub from_values-self-inside-requires-in-Names : goal.from_values-self-inside-requires-in-Names
from_values-self-inside-requires-in-Names c =
    let none = meets c.args.self.now c.args.word Names c.args.words c.in-Names.is c.requires.fits in
    rw c.requires.values (MeetsNone-names c.args.self.now c.args.words none)

-- the number of a thread is small
thread-small : (p : Progress) (words : List (List ℕ)) (values : List ℕ) → length p.threads ≤ 16 → MeetsNone p (Header Thread) words →
    values ≡ values_of words → get_or values 0 0 < 16
thread-small p words values few none same =
    let count = MeetsNone-count p (Header Thread) words none in
    let there = MeetsNone-thread p words none (omega arith) (MeetsNone-stage p (Header Thread) words none).0 in
    let value : get_or values 0 0 ≡ value_at words 0 = ap (λ vs. get_or vs 0 0) same in
    omega (arith, there, value, few)

pub overflow_cast-self : goal.overflow_cast-self
overflow_cast-self c =
    let none = meets c.args.self.now c.args.word Thread c.args.words c.in-Thread.is c.requires.fits in
    let small = thread-small c.args.self.now c.args.words c.args.values c.requires.good.threads.few none c.requires.values in
    omega (arith, small)

pub overflow_add-self : goal.overflow_add-self
overflow_add-self c =
    let none = meets c.args.self.now c.args.word Thread c.args.words c.in-Thread.is c.requires.fits in
    let small = thread-small c.args.self.now c.args.words c.args.values c.requires.good.threads.few none c.requires.values in
    omega (arith, small)

pub push_orders-requires : goal.push_orders-requires
push_orders-requires c =
    let p = c.args.self.now in
    let none = meets p c.args.word Order c.args.words c.in-Order.is c.requires.fits in
    let built = ap (λ (q : Progress). q.built) c.self.view_is in
    let stage = MeetsNone-stage p (Header Order) c.args.words none in
    let fit = orders-fit p 0 c.args.words stage.0 none.places in
    rw built (orders-same p.built (length p.threads) c.args.words c.requires.good.threads.few fit)
