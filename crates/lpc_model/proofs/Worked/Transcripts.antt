-- The worked scripts have their transcripts.
use Rattle.std.specs.Prelude.{refl}
use Rattle.std.specs.Fmt.{digits}
use Rattle.hex.specs.Hex.{decode_pairs, encode_with}
use Rattle.lpc_base.specs.Places.{handle_from}
use Rattle.lpc_names.specs.Walk.{walk, walk_by}
use Rattle.lpc_model.specs.Script.{script_lines}
use Rattle.lpc_model.specs.Words.{split_once, decimal_word, digits_word, hex_word, hexadecimal_word, id_word, info_word, message_word, number_word, reply_message, three_parts, words}
use Rattle.lpc_model.specs.Grammar.{accept_word, view_word, call_line, call_named, call_words, directive_line, directive_named, directive_words, four_words, one_or_two_words, one_word, read_line, two_words, qos_word, two_or_three_words}
use Rattle.lpc_model.specs.Run.{first_fault, said_from, trace, world_behind}
use Rattle.lpc_model.specs.Transcript.{body_from, transcript}
use Rattle.lpc_model.specs.Text.{entries_text, entry_text}
use Rattle.lpc_model.specs.Settle.{settle}
use Rattle.lpc_model.specs.Sweep.{sweep}
use Rattle.lpc_model.specs.Machine.{boot_line, dir_line, link_line, bare_steps, thread_line, own_steps}
use Rattle.lpc_model.specs.Connect.{nt_create_port}
use Rattle.lpc_model.specs.Request.{nt_reply_port, nt_reply_wait_receive_port, nt_request_port, nt_request_wait_reply_port}
use Rattle.lpc_model.specs.Message.{bytes_of, message_test}
use Rattle.lpc_model.specs.Worked.{WorkedTranscripts}

pub worked_transcripts : WorkedTranscripts
unfolding two_or_three_words qos_word script_lines words digits_word decimal_word hexadecimal_word number_word id_word hex_word split_once three_parts reply_message message_word info_word accept_word view_word call_named directive_named one_word one_or_two_words two_words four_words call_words directive_words call_line directive_line read_line first_fault said_from trace world_behind body_from transcript entry_text entries_text boot_line dir_line link_line thread_line own_steps bare_steps settle sweep nt_create_port nt_request_port nt_request_wait_reply_port nt_reply_port nt_reply_wait_receive_port bytes_of message_test handle_from walk walk_by digits decode_pairs encode_with
worked_transcripts = record {
  first_request = refl;
  mismatched_identifier = refl;
  request_not_yet_received = refl;
  no_such_client = refl;
  empty_script = refl;
  line_without_its_end = refl;
  fault_of_a_byte = refl;
  fault_of_a_number = refl;
  fault_of_a_directive = refl;
  fault_of_digits = refl;
  fault_of_a_call = refl;
  fault_of_a_message = refl;
  fault_of_a_count = refl;
  fault_of_a_process_number = refl;
  example_of_mismatched_replies = refl;
  example_of_messages_too_long = refl;
  example_of_waiting_receivers = refl;
  example_of_a_faulty_line = refl;
  example_of_datagrams = refl;
  example_of_a_receive_that_replies = refl;
  example_of_names = refl;
}
