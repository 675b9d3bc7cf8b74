use Rattle.std.proofs.Common.{length, ap, ◌∙◌}
use Rattle.std.specs.List.{flat_map}
use Rattle.violation_measures.specs.Scenes.{features_of}
use Rattle.violation_measures.specs.SceneSources.{scene_of as source_scene}
use Rattle.violation_measures.specs.Sources.{Features}
use Rattle.violation_measures.specs.declared.bound.Bound.{Bound}
use Rattle.trajectory_judge.specs.Judgements.{measured, place_pairs}
use Rattle.rulebook_commands.specs.Judge.{told_pair}
use Rattle.bound_scene.specs.SceneInputs.{features}
use Rattle.rulebook_commands.proofs.Judgings.{all_placed, as_many, layers_under, told_lines}
use Rattle.rulebook_commands.proofs.recordings.judge_bound.Goals as goal

pub judgement_text-requires : goal.judgement_text-requires
judgement_text-requires c =
    let judged = c.in_ok-judged.judged in
    let is = c.in_ok-judged.ensures in
    let are = is.pairs ∙ ap place_pairs (as_many c.args.records.now judged.runs is.names) in
    rw c.as_slice.ensures (all_placed c.order-order.result judged.runs judged.pairs are is.verdicts (length c.args.files.now.book.rules) c.order-order.ensures.size)

pub returns : goal.returns
returns c =
    let files = c.args.files.now in
    let records = c.args.records.now in
    let judged = c.in_ok-judged.judged in
    let is = c.in_ok-judged.ensures in
    let order = c.order-order.result in
    let size = c.order-order.ensures.size in
    let closure = c.order-order.ensures.closure in
    let are = is.pairs ∙ ap place_pairs (as_many records judged.runs is.names) in
    let f = features_of (source_scene c.args.source.now) in
    record {
      runs = judged.runs;
      names = is.names;
      vectors = is.vectors ∙ ap (λ (g : Features). measured g c.args.bound.now records) c.requires.source ∙ ap (λ (b : Bound). measured (features files) b records) c.requires.bound;
      layers = layers_under files.book.statements (length files.book.rules) order size closure judged.runs is.layers;
      told = flat_map (told_pair files.book.rules judged.runs) judged.pairs;
      verdicts = told_lines files.book.statements files.book.rules judged.runs order size closure judged.pairs are is.verdicts;
      says = rw c.as_slice.ensures at c.in_ok-text.ensures;
    }
