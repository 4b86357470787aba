use Rattle.command_line.specs.Words.{program_app}
use Rattle.command_line.proofs.words.parser.Goals as goal

pub returns : goal.returns
unfolding program_app
returns c =
    let scenario = c.and_command-scenario.ensures _ _ c.program_parser.ensures c.scenario_parser.ensures in
    let trace = c.and_command-trace.ensures _ _ scenario c.trace_parser.ensures in
    let draw = c.and_command-draw.ensures _ _ trace c.draw_parser.ensures in
    let cluster = c.and_command-cluster.ensures _ _ draw c.cluster_parser.ensures in
    let server = c.and_command-server.ensures _ _ cluster c.server_parser.ensures in
    c.and_command.ensures _ _ server c.master_parser.ensures
