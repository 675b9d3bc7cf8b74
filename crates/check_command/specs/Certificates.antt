-- A certificate as an input, and what it shows of a scene.
use Rattle.std.specs.Prelude.{◌≡◌, ◌↔◌, ℕ, List, ◌++◌, length, Contains, Option, None, Some, Result}
use Rattle.std.specs.Prelude.{codes}
use Rattle.std.specs.List.Sorted.{IsPermutation, IsSortedBy}
use Rattle.preorder.specs.Preorder.{rules_of}
use Rattle.preorder.specs.declared.order.Preorder.{Preorder}
use Rattle.rule_language.specs.declared.book.Book.{Book}
use Rattle.rule_language.specs.declared.book.Rule.{Rule}
use Rattle.rulebook_order.specs.Certified.{finished_at}
use Rattle.rulebook_order.specs.NoWorseBy.{NoWorseBy}
use Rattle.rulebook_order.specs.NoWorseUnder.{NoWorseUnder}
use Rattle.certificate_text.specs.ReadText.{certificate_in}
use Rattle.certificate_text.specs.declared.certificate.Certificate.{Certificate}
use Rattle.certificate_text.specs.declared.fault.CertFault.{CertFault}
use Rattle.certificate_text.specs.declared.fault.CertFault.TheVariants as fault
use Rattle.certificate_checker.specs.GoodCertificate.{IsGood, LeadsToLabel, pairs_of}
use Rattle.certificate_checker.specs.declared.checked.Attained.{Attained}
use Rattle.maneuver_lattice.specs.Scenes.{Scene}
use Rattle.command_outcome.specs.declared.outcome.Role.TheVariants as role
use Rattle.command_outcome.specs.Outcome.{fault_at}
use Rattle.command_outcome.specs.Inputs.{Inputs, file, told}
use Rattle.check_command.specs.Answers.{AreAnswers, NoWorseFor, answer_text, comes_before}
use Rattle.check_command.specs.Answers.{front_lines, graph_of}
use Rattle.check_command.specs.Answers.{rules_line}
use Rattle.bound_scene.specs.declared.scene_files.SceneFiles.{SceneFiles}

-- ---- as an input

-- a fault's name in lower case with dashes between its words, and the number of the line; want of
-- memory has none
abbrev pub certificate_fault_text : CertFault → Option (List ℕ)
certificate_fault_text (fault.Syntax n) = Some (fault_at (codes "syntax") n)
certificate_fault_text fault.Truncated = Some (codes "truncated")
certificate_fault_text fault.TooManyLabels = Some (codes "too-many-labels")
certificate_fault_text fault.TooManyLinks = Some (codes "too-many-links")
certificate_fault_text fault.TrailingBytes = Some (codes "trailing-bytes")
certificate_fault_text fault.NoMemory = None

abbrev pub certificate_read : List ℕ → Result Certificate (Option (List ℕ))
certificate_read bytes = told certificate_fault_text (certificate_in bytes)

abbrev pub certificate_input : List ℕ → Inputs Certificate
certificate_input name = file role.Certificate certificate_read name

-- ---- what it shows

-- a final's finished vector, with the choices that the parents give from the start to the final
pub record IsOfFinal (files : SceneFiles) (certificate : Certificate)
    (answer : Attained) : Type 0 where
  pub final : ℕ
  pub listed : Contains certificate.finals final
  pub vector_is : answer.vector ≡ finished_at (graph_of files)
      (pairs_of (graph_of files) certificate.labels) final
  pub leads : LeadsToLabel certificate.labels final answer.choices

-- the certificate meets its eight conditions, and the answers are those of its finals: they are the
-- answer over the scene
pub record Shows (files : SceneFiles) (certificate : Certificate)
    (answers : List Attained) : Type 0 where
  pub good : IsGood (graph_of files) (NoWorseFor files) certificate
  pub of_finals : (answer : Attained) → Contains answers answer ↔ IsOfFinal files certificate answer
  pub answers_are : AreAnswers files answers

-- the text of answers in ascending order, behind some words and the line of the rules' names
pub record IsSortedText (words : List ℕ) (rules : List Rule) (scene : Scene)
    (answers : List Attained) (text : List ℕ) : Type 0 where
  pub sorted : List Attained
  pub same : IsPermutation answers sorted
  pub in_order : IsSortedBy comes_before sorted
  pub says : text ≡ words ++ (rules_line rules ++ front_lines scene sorted)

-- the order on rules compares vectors by the statements of the book
pub record IsOrderOf (book : Book) (order : Preorder) : Type 0 where
  pub rules : rules_of order ≡ length book.rules
  pub words : (x y : List ℕ) → NoWorseBy order x y
      ↔ NoWorseUnder book.statements (length book.rules) x y

-- the text of what the certificate shows, behind some words
pub record IsShownText (words : List ℕ) (files : SceneFiles) (certificate : Certificate)
    (text : List ℕ) : Type 0 where
  pub answers : List Attained
  pub shows : Shows files certificate answers
  pub says : text ≡ words ++ answer_text files answers
