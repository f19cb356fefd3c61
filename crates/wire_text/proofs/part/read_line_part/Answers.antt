use Rattle.std.proofs.Common.{◌+◌, ◌-◌, List, ℕ, length, Some, None, refl, arith}
use Rattle.wire_text.specs.Words.{line_of}
use Rattle.wire_text.specs.declared.entry.Entry.TheVariants.{Put, Clear, Command}
use Rattle.wire_text.proofs.Says.{bad_placed, data_placed}
use Rattle.wire_text.specs.declared.fault.ScriptFaultKind.TheVariants.{BadData, LongData}
use Rattle.wire_text.proofs.Arms.{kind_is, line_goes, line_ends, block_goes, block_ends, block_stops}
use Rattle.wire_text.proofs.part.read_line_part.Goals as goal

pub returns-in-Skipped-clause-part : goal.returns-in-Skipped-clause-part
returns-in-Skipped-clause-part g c =
    let a = c.args in
    let start = a.intake.now.place - (length a.line.now + 1) in
    let is = kind_is a.client.now a.line.now a.input.now _ _ _ c.is_some.ensures c.in_ok-line_kind.ensures c.in-Skipped.is in
    line_goes a.client.now start a.number a.input.now a.line.now c.requires.free c.requires.short _ is (g.S.Source.says.left a.source.now) 0 0 a.intake.now (omega (arith, c.requires.start)) c.place.ensures.most
    (record { size = length a.line.now + 1; entry = None; input = a.input.now }) (λ y. refl) refl

pub returns-in-Clear-clause-part : goal.returns-in-Clear-clause-part
returns-in-Clear-clause-part g c =
    let a = c.args in
    let start = a.intake.now.place - (length a.line.now + 1) in
    let is = kind_is a.client.now a.line.now a.input.now _ _ _ c.is_some.ensures c.in_ok-line_kind.ensures c.in-Clear.is in
    line_goes a.client.now start a.number a.input.now a.line.now c.requires.free c.requires.short _ is (g.S.Source.says.left a.source.now) 0 0 a.intake.now (omega (arith, c.requires.start)) c.place.ensures.most
    (record { size = length a.line.now + 1; entry = Some (Clear c.in-Clear.path); input = a.input.now }) (λ y. refl) refl

pub returns-in_ok-read-in-CommandLine-clause-part : goal.returns-in_ok-read-in-CommandLine-clause-part
returns-in_ok-read-in-CommandLine-clause-part g c =
    let a = c.args in
    let start = a.intake.now.place - (length a.line.now + 1) in
    let is = kind_is a.client.now a.line.now a.input.now _ _ _ c.is_some.ensures c.in_ok-line_kind.ensures c.in-CommandLine.is in
    rw (c.in_ok-read-in-CommandLine.ensures.command, c.in_ok-read-in-CommandLine.ensures.input)
    (line_goes a.client.now start a.number a.input.now a.line.now c.requires.free c.requires.short _ is (g.S.Source.says.left a.source.now) 0 0 a.intake.now (omega (arith, c.requires.start)) c.place.ensures.most
    (record { size = length a.line.now + 1; entry = Some (Command (record { number = a.number; line = line_of a.line.now; input = a.input.now })); input = None }) (λ y. refl) refl)

pub returns-in-Bad-clause-part : goal.returns-in-Bad-clause-part
returns-in-Bad-clause-part g c =
    let a = c.args in
    let start = a.intake.now.place - (length a.line.now + 1) in
    let is = kind_is a.client.now a.line.now a.input.now _ _ _ c.is_some.ensures c.in_ok-line_kind.ensures c.in-Bad.is in
    rw (c.fault.ensures, c.place.ensures.place)
    (line_ends a.client.now start a.number a.input.now a.line.now c.requires.free c.requires.short _ is (g.S.Source.says.left a.source.now) 0 0 a.intake.now (omega (arith, c.requires.start)) c.place.ensures.most BadData bad_placed (λ y. refl))

pub returns-in-LongBlock-clause-part : goal.returns-in-LongBlock-clause-part
returns-in-LongBlock-clause-part g c =
    let a = c.args in
    let start = a.intake.now.place - (length a.line.now + 1) in
    let is = kind_is a.client.now a.line.now a.input.now _ _ _ c.is_some.ensures c.in_ok-line_kind.ensures c.in-LongBlock.is in
    rw (c.fault-in-LongBlock.ensures, c.place.ensures.place)
    (line_ends a.client.now start a.number a.input.now a.line.now c.requires.free c.requires.short _ is (g.S.Source.says.left a.source.now) 0 0 a.intake.now (omega (arith, c.requires.start)) c.place.ensures.most LongData data_placed (λ y. refl))

pub returns-in-Block-2-clause-part : goal.returns-in-Block-2-clause-part
returns-in-Block-2-clause-part g c =
    let a = c.args in
    let start = a.intake.now.place - (length a.line.now + 1) in
    let is = kind_is a.client.now a.line.now a.input.now _ _ _ c.is_some.ensures c.in_ok-line_kind.ensures c.in-Block.is in
    let k = rw c.in-Block-2.is at c.in_ok-bytes-in-Block.ensures.block in
    block_goes a.client.now start a.number a.input.now a.line.now c.requires.free c.requires.short _ is (g.S.Source.says.left a.source.now) _ 0 0 a.intake.now _ (omega (arith, c.requires.start)) c.in-Block.size
    (λ (b : List ℕ). Some (Put (record { path = c.in-Block.path; bytes = b }))) (λ (b : List ℕ). a.input.now) (λ y. refl) c.in-Block-2.bytes k.0 k.1

pub returns-in-Bad-2-clause-part : goal.returns-in-Bad-2-clause-part
returns-in-Bad-2-clause-part g c =
    let a = c.args in
    let start = a.intake.now.place - (length a.line.now + 1) in
    let is = kind_is a.client.now a.line.now a.input.now _ _ _ c.is_some.ensures c.in_ok-line_kind.ensures c.in-Block.is in
    let k = rw c.in-Bad-2.is at c.in_ok-bytes-in-Block.ensures.block in
    rw (c.fault-in-Bad-2.ensures, c.place.ensures.place)
    (block_ends a.client.now start a.number a.input.now a.line.now c.requires.free c.requires.short _ is (g.S.Source.says.left a.source.now) _ 0 0 a.intake.now _ (omega (arith, c.requires.start)) c.in-Block.size
    (λ (b : List ℕ). Some (Put (record { path = c.in-Block.path; bytes = b }))) (λ (b : List ℕ). a.input.now) (λ y. refl) k.0 k.1 k.2 k.3 k.4)

pub returns-in-Stopped-clause-part : goal.returns-in-Stopped-clause-part
returns-in-Stopped-clause-part g c =
    let a = c.args in
    let start = a.intake.now.place - (length a.line.now + 1) in
    let is = kind_is a.client.now a.line.now a.input.now _ _ _ c.is_some.ensures c.in_ok-line_kind.ensures c.in-Block.is in
    let k = rw c.in-Stopped.is at c.in_ok-bytes-in-Block.ensures.block in
    rw (c.stopped.ensures, c.is_some-in-Stopped.ensures, c.place.ensures.place, c.place-in-Stopped.ensures.place)
    (block_stops a.client.now start a.number a.input.now a.line.now c.requires.free c.requires.short _ is (g.S.Source.says.left a.source.now) _ _ _ a.intake.now _ (omega (arith, c.requires.start)) c.in-Block.size
    (λ (b : List ℕ). Some (Put (record { path = c.in-Block.path; bytes = b }))) (λ (b : List ℕ). a.input.now) (λ y. refl) k.0 c.in-Stopped.stop a.input.now k.1 k.2)

pub returns-in-Block-3-clause-part : goal.returns-in-Block-3-clause-part
returns-in-Block-3-clause-part g c =
    let a = c.args in
    let start = a.intake.now.place - (length a.line.now + 1) in
    let is = kind_is a.client.now a.line.now a.input.now _ _ _ c.is_some.ensures c.in_ok-line_kind.ensures c.in-Input.is in
    let k = rw c.in-Block-3.is at c.in_ok-bytes-in-Input.ensures.block in
    block_goes a.client.now start a.number a.input.now a.line.now c.requires.free c.requires.short _ is (g.S.Source.says.left a.source.now) _ 0 0 a.intake.now _ (omega (arith, c.requires.start)) c.in-Input.size
    (λ (b : List ℕ). None) (λ (b : List ℕ). Some b) (λ y. refl) c.in-Block-3.bytes k.0 k.1

pub returns-in-Bad-3-clause-part : goal.returns-in-Bad-3-clause-part
returns-in-Bad-3-clause-part g c =
    let a = c.args in
    let start = a.intake.now.place - (length a.line.now + 1) in
    let is = kind_is a.client.now a.line.now a.input.now _ _ _ c.is_some.ensures c.in_ok-line_kind.ensures c.in-Input.is in
    let k = rw c.in-Bad-3.is at c.in_ok-bytes-in-Input.ensures.block in
    rw (c.fault-in-Bad-3.ensures, c.place.ensures.place)
    (block_ends a.client.now start a.number a.input.now a.line.now c.requires.free c.requires.short _ is (g.S.Source.says.left a.source.now) _ 0 0 a.intake.now _ (omega (arith, c.requires.start)) c.in-Input.size
    (λ (b : List ℕ). None) (λ (b : List ℕ). Some b) (λ y. refl) k.0 k.1 k.2 k.3 k.4)

pub returns-in-Stopped-2-clause-part : goal.returns-in-Stopped-2-clause-part
returns-in-Stopped-2-clause-part g c =
    let a = c.args in
    let start = a.intake.now.place - (length a.line.now + 1) in
    let is = kind_is a.client.now a.line.now a.input.now _ _ _ c.is_some.ensures c.in_ok-line_kind.ensures c.in-Input.is in
    let k = rw c.in-Stopped-2.is at c.in_ok-bytes-in-Input.ensures.block in
    rw (c.stopped-in-Stopped-2.ensures, c.is_some-in-Stopped-2.ensures, c.place.ensures.place, c.place-in-Stopped-2.ensures.place)
    (block_stops a.client.now start a.number a.input.now a.line.now c.requires.free c.requires.short _ is (g.S.Source.says.left a.source.now) _ _ _ a.intake.now _ (omega (arith, c.requires.start)) c.in-Input.size
    (λ (b : List ℕ). None) (λ (b : List ℕ). Some b) (λ y. refl) k.0 c.in-Stopped-2.stop a.input.now k.1 k.2)
