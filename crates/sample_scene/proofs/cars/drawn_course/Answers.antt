use Rattle.std.proofs.Common.{◌≡◌, ◌∙◌}
use Rattle.sample_scene.specs.Draws.{given_by}
use Rattle.sample_scene.specs.Motorway.{course}
use Rattle.sample_scene.proofs.DrawnCourse.{drawn_course_is, three_draws}
use Rattle.sample_scene.proofs.cars.drawn_course.Goals as goal

pub returns-clause-course : goal.returns-clause-course
returns-clause-course c = λ number place e.
    let by_states : course c.draw-a.result c.draw-b.result c.draw-d.result ≡ course (given_by c.draw-a.new.self.state) (given_by c.draw-b.new.self.state) (given_by c.draw-d.new.self.state) = λ i. course (c.draw-a.ensures.value i) (c.draw-b.ensures.value i) (c.draw-d.ensures.value i) in
    c.drawn.ensures ∙ (by_states ∙ drawn_course_is number place c.args.draws.now.state c.draw-a.new.self.state c.draw-b.new.self.state c.draw-d.new.self.state e c.draw-a.ensures.state c.draw-b.ensures.state c.draw-d.ensures.state)

pub returns-clause-draws : goal.returns-clause-draws
returns-clause-draws c = λ number place e.
    three_draws number place c.args.draws.now.state c.draw-a.new.self.state c.draw-b.new.self.state c.draw-d.new.self.state e c.draw-a.ensures.state c.draw-b.ensures.state c.draw-d.ensures.state
