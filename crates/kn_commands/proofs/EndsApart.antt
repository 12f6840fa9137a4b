-- Of the same bytes no two runs of a core end apart.
use Rattle.std.proofs.Common.{◌≡◌, ℕ, Bool, true, false, Option, Some, List, subst, refl}
use Rattle.kn_io.specs.Devices.{Devices}
use Rattle.kn_io.specs.Told.{GivesAll}
use Rattle.kn_script.specs.Scripts.{Scripted}
use Rattle.kn_script.specs.Grammar.{IsText}
use Rattle.kn_script.specs.Laws.{TextsAreOfOneScript}
use Rattle.kn_cms.specs.declared.words.TheConstants.{CORE_WORDS}
use Rattle.kn_cms_trace.specs.RunLaws.{RunsAreOne}
use Rattle.kn_commands.specs.Ends.{IsRead}
use Rattle.kn_commands.specs.CmsEnds.{IsCoreLeft, OkAndSpentApart}

-- bytes that were told and read are the text of the script
told_text : (script : Scripted) (bytes : List ℕ) (left left' : Option (List ℕ)) → left ≡ Some bytes → IsRead CORE_WORDS script left left' →
    IsText CORE_WORDS script bytes
told_text script bytes left left' e read =
    subst (λ (t : List ℕ). IsText CORE_WORDS script t) (subst (λ (o : Option (List ℕ)). GivesAll o left' read.bytes) e read.given).0 read.text

pub ok_and_spent_apart : TextsAreOfOneScript CORE_WORDS → RunsAreOne → OkAndSpentApart
ok_and_spent_apart one runs bytes a a' b b' ea eb x y =
    let whole = x.1.ok refl in
    let ran = whole.ran in
    let spent = y.1.spent refl in
    let same = one ran.script spent.script bytes (told_text ran.script bytes a.left a'.left ea ran.read)
    (told_text spent.script bytes b.left b'.left eb spent.read) in
    let left = subst (λ (s : Scripted). IsCoreLeft s false ran.after) same ran.is_run in
    let e : false ≡ true =
    (runs spent.script false true ran.after spent.after left.is_script left.is_run spent.is_run.is_run).0 in
    absurd (cc)
