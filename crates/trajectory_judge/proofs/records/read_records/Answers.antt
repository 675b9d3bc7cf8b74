use Rattle.trajectory_judge.proofs.FirstRow.{first_of, only_of}
use Rattle.trajectory_judge.proofs.WhatRowsSay.{read_as_said}
use Rattle.trajectory_judge.proofs.records.read_records.Goals as goal

pub returns-clause-read : goal.returns-clause-read
returns-clause-read c = read_as_said c.args.maneuvers.now c.args.bytes.now c.records_of.result c.records_of.ensures.exact c.records_of.ensures.sound

pub returns-clause-only : goal.returns-clause-only
returns-clause-only c = only_of c.args.maneuvers.now c.args.bytes.now c.records_of.result c.records_of.ensures.exact

pub returns-clause-first_fault : goal.returns-clause-first_fault
returns-clause-first_fault c = first_of c.args.maneuvers.now c.args.bytes.now c.records_of.result c.records_of.ensures.exact
